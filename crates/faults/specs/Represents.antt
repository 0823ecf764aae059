-- What the listed sets are to the sets of the theory. Assumes nothing: these are definitions.
use Rattle.std.specs.Prelude.{◌≡◌, ℕ, ◌<◌, List, length}
use Rattle.std.specs.List.{HoldsAt, AllByRecursion}
use Rattle.theory.specs.Level.{Levels, Ranges}
use Rattle.theory.specs.History as history
use Rattle.theory.specs.History.{Event, AtMost, History}
use Rattle.faults.specs.declared.set.FaultSet.{FaultSet}
use Rattle.faults.specs.Sets.{gauge_set}

-- The sets have the same gauges.
abbrev pub Agree : history.FaultSet → history.FaultSet → Type 0
Agree w v = (a : ℕ) → w a ≡ v a

-- The sets have the same gauges below g.
abbrev pub AgreeBelow : ℕ → history.FaultSet → history.FaultSet → Type 0
AgreeBelow g w v = (a : ℕ) → a < g → w a ≡ v a

-- The sets have the same histories.
abbrev pub SameHistories : history.FaultSet → history.FaultSet → Type 0
SameHistories w v =
    (n : ℕ) (start : Ranges) (es : List Event) (x : Levels) →
    (History n start w es x → History n start v es x) × (History n start v es x → History n start w es x)

-- At one place of the list is a set with the gauges of v, and so with its histories; at no other place is one that agrees
-- with v even on the gauges below g alone.
pub record Represented (g : ℕ) (xs : List FaultSet) (v : history.FaultSet) : Type 0 where
  pub place : ℕ
  pub within : place < length xs
  pub same : HoldsAt (λ s. Agree (gauge_set s) v) xs place
  pub histories : HoldsAt (λ s. SameHistories (gauge_set s) v) xs place
  pub only : (k : ℕ) → k < length xs → HoldsAt (λ s. AgreeBelow g (gauge_set s) v) xs k → k ≡ place

-- The list has just the sets of the theory with at most f gauges, all of them below g, each at one place.
pub record Represents (f g : ℕ) (xs : List FaultSet) : Type 0 where
  pub few : AllByRecursion (λ s. AtMost f g (gauge_set s)) xs
  pub all : (v : history.FaultSet) → AtMost f g v → Represented g xs v
