-- What has been read so far. Assumes nothing: these are definitions.
use Rattle.std.specs.Prelude.{◌≡◌, ℕ, ◌+◌, ◌-◌, ◌^◌, ◌≤◌, min}
use Rattle.observe.specs.declared.counts.Counts.{Counts}
use Rattle.observe.specs.declared.kinds.Answer.{Answer}
use Rattle.observe.specs.declared.kinds.Answer.TheVariants.{Taken, Refused, NoGauge, Shown, Rings, Unfit, Late}

abbrev pub none : Counts
none = record { lines = 0; errors = 0; strays = 0 }

-- one more, up to the largest u64
abbrev pub more : ℕ → ℕ
more n = min (n + 1) (2 ^ 64 - 1)

-- a line more
abbrev pub lined : Counts → Counts
lined c = record { lines = more c.lines; errors = c.errors; strays = c.strays }

-- an error more
abbrev pub failed : Counts → Counts
failed c = record { lines = c.lines; errors = more c.errors; strays = c.strays }

-- so many lines more that count for nothing
abbrev pub strayed : ℕ → Counts → Counts
strayed k c = record { lines = c.lines; errors = c.errors; strays = min (c.strays + k) (2 ^ 64 - 1) }

-- the counts after an entry that was answered so
abbrev pub noted : Answer → Counts → Counts
noted Taken c = c
noted (Refused x) c = c
noted (NoGauge g) c = c
noted Shown c = c
noted (Rings b l a) c = c
noted (Unfit x) c = failed c
noted Late c = failed c

-- no line counts twice
abbrev pub Once : Counts → Type 0
Once c = c.errors ≤ c.lines

-- so many lines were read, and none counts twice
abbrev pub After : ℕ → Counts → Type 0
After n c = (c.lines ≡ n) × Once c
