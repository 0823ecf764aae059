-- The ends of a quantity over a set of levels. Assumes nothing: these are definitions.
use Rattle.std.specs.Prelude.{◌≡◌, ℤ, ◌≤ℤ◌, Some, None, Option}
use Rattle.theory.specs.Bound.{Bound, none, at_most}
use Rattle.theory.specs.Level.{Levels}

-- The greatest value of a quantity: no levels of the set pass it, and some reach it.
pub record Greatest (P : Levels → Type 0) (q : Levels → ℤ) (c : ℤ) : Type 0 where
  pub holds : (x : Levels) → P x → q x ≤ℤ c
  pub reached : (x : Levels) × P x × (q x ≡ c)

-- The least value, likewise.
pub record Least (P : Levels → Type 0) (q : Levels → ℤ) (c : ℤ) : Type 0 where
  pub holds : (x : Levels) → P x → c ≤ℤ q x
  pub reached : (x : Levels) × P x × (q x ≡ c)

-- No end: some levels of the set are as far up, or down, as you like.
abbrev pub UnboundedAbove : (Levels → Type 0) → (Levels → ℤ) → Type 0
UnboundedAbove P q = (c : ℤ) → (x : Levels) × P x × (c ≤ℤ q x)

abbrev pub UnboundedBelow : (Levels → Type 0) → (Levels → ℤ) → Type 0
UnboundedBelow P q = (c : ℤ) → (x : Levels) × P x × (q x ≤ℤ c)

-- The quantity goes from low to high: every value is within, and each end is reached.
abbrev pub Spans : (Levels → Type 0) → (Levels → ℤ) → (low high : ℤ) → Type 0
Spans P q low high = Least P q low × Greatest P q high

-- A bound is the upper end of a quantity.
abbrev pub UpperEnd : (Levels → Type 0) → (Levels → ℤ) → Bound → Type 0
UpperEnd P q none = UnboundedAbove P q
UpperEnd P q (at_most c) = Greatest P q c

-- What is shown of the upper end: nothing where the set has no levels, else the end.
abbrev pub ShowsUpper : (Levels → Type 0) → (Levels → ℤ) → Option Bound → Type 0
ShowsUpper P q None = (x : Levels) → P x → ⊥
ShowsUpper P q (Some b) = UpperEnd P q b
