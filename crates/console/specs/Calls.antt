-- The arguments of a call. Assumes nothing: these are definitions.
use Rattle.std.specs.Prelude.{◌≡◌, Some, None, Option, String}
use Rattle.std.specs.declared.alloc.Global.{Global}

-- s is the only argument
abbrev pub Alone : String Global → Option (String Global) → Option (String Global) → Type 0
Alone s first second = (first ≡ Some s) × (second ≡ None)
