-- What is promised of histories. Each is a statement, whose proof is owed by a function that has it for its contract.
-- Assumes nothing.
use Rattle.std.specs.Prelude.{ℕ, ◌≤◌, ◌⊎◌, List, ◌∷◌, ◌++◌, Decides}
use Rattle.theory.specs.Bound.{Bound, Holds, NoLarger}
use Rattle.theory.specs.Level.{Levels, difference, Ranges, Ordered}
use Rattle.theory.specs.Zone.{Zone, In, Canonical, Empty}
use Rattle.theory.specs.History.{Event, reads, Reading, Placed, FaultSet, History}
use Rattle.theory.specs.Possible.{Possible, NonePossible, AlwaysWrong, Explained, AlwaysBlamed}
use Rattle.theory.specs.End.{UpperEnd, ShowsUpper}
use Rattle.theory.specs.Computed.{zone_in, is_empty, zone_after, upper_end, no_history, named}

-- A zone is kept for a fault set: it is canonical or empty, and has in it just the ends of the histories for this set.
pub record Kept (n : ℕ) (start : Ranges) (w : FaultSet) (es : List Event) (z : Zone) : Type 0 where
  pub shape : Canonical n z ⊎ Empty n z
  pub sound : (x : Levels) → History n start w es x → In n z x
  pub exact : (x : Levels) → In n z x → History n start w es x

-- For every list of events and every fault set the computed zone is kept, and is_empty tells whether it has levels.
abbrev pub AlwaysKept : Type 0
AlwaysKept =
    (n : ℕ) (start : Ranges) (w : FaultSet) (es : List Event) → Ordered n start → Placed n es →
    Kept n start w es (zone_in n (zone_after n start w es))
    × Decides (is_empty (zone_after n start w es)) (Empty n (zone_in n (zone_after n start w es)))

-- Levels are possible by wrong gauges exactly if they are by fault sets; a gauge is wrong in all histories exactly if it is
-- in every fault set that has one.
abbrev pub WrongOrBlamed : Type 0
WrongOrBlamed =
    (n g f : ℕ) (start : Ranges) (es : List Event) →
    ((x : Levels) →
    (Possible n g f start es x → Explained n g f start es x) × (Explained n g f start es x → Possible n g f start es x))
    × ((a : ℕ) →
    (AlwaysWrong n g f start es a → AlwaysBlamed n g f start es a)
    × (AlwaysBlamed n g f start es a → AlwaysWrong n g f start es a))

-- The bound that is computed over all fault sets, of any two numbers, is the upper end of their difference over all possible
-- levels; and nothing is computed exactly where nothing is possible.
abbrev pub AllShown : Type 0
AllShown =
    (n g f : ℕ) (start : Ranges) (es : List Event) (i j : ℕ) → Ordered n start → Placed n es → i ≤ n → j ≤ n →
    ShowsUpper (Possible n g f start es) (λ x. difference x i j) (upper_end n g f start es i j)

-- No bound that holds in all possible levels is smaller than their upper end.
abbrev pub Sharpest : Type 0
Sharpest =
    (n g f : ℕ) (start : Ranges) (es : List Event) (i j : ℕ) (b c : Bound) →
    UpperEnd (Possible n g f start es) (λ x. difference x i j) b →
    ((x : Levels) → Possible n g f start es x → Holds c (difference x i j)) → NoLarger b c

-- A gauge is named exactly if it is wrong in all histories.
abbrev pub Naming : Type 0
Naming =
    (n g f : ℕ) (start : Ranges) (es : List Event) (a : ℕ) → Ordered n start → Placed n es →
    Decides (named n g f start es a) (AlwaysWrong n g f start es a)

-- That there is no history is said exactly if there is none; and then there is none after any further event.
abbrev pub NoHistory : Type 0
NoHistory =
    (n g f : ℕ) (start : Ranges) (es : List Event) → Ordered n start → Placed n es →
    Decides (no_history n g f start es) (NonePossible n g f start es)

abbrev pub StaysSo : Type 0
StaysSo =
    (n g f : ℕ) (start : Ranges) (es : List Event) (e : Event) →
    NonePossible n g f start es → NonePossible n g f start (e ∷ es)

-- A further reading never makes anything possible.
abbrev pub LessPossible : Type 0
LessPossible =
    (n g f : ℕ) (start : Ranges) (es : List Event) (r : Reading) (x : Levels) →
    Possible n g f start (reads r ∷ es) x → Possible n g f start es x

-- Two readings with no step between them may change places, whatever comes later: between two steps their order makes no
-- difference.
abbrev pub OrderFree : Type 0
OrderFree =
    (n g f : ℕ) (start : Ranges) (es later : List Event) (r s : Reading) (x : Levels) →
    Possible n g f start (later ++ (reads r ∷ reads s ∷ es)) x → Possible n g f start (later ++ (reads s ∷ reads r ∷ es)) x
