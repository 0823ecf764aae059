-- How many gauges there can be, and how many of them wrong. Assumes nothing: these are definitions.
use Rattle.std.specs.Prelude.{ℕ, cond, ◌&&◌, Some, None, Option, nat_le, nat_lt}
use Rattle.refusal.specs.declared.kinds.Refusal.{Refusal}
use Rattle.refusal.specs.declared.kinds.Refusal.TheVariants.{Gauges, Wrong}

-- There are 1 to 12 gauges, and at most 2 of them may be wrong, and never all. The gauges are refused first.
abbrev pub refusal_of : (g f : ℕ) → Option Refusal
refusal_of g f = cond (nat_le 1 g && nat_le g 12) (cond (nat_le f 2 && nat_lt f g) None (Some Wrong)) (Some Gauges)
