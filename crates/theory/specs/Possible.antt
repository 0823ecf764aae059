-- Levels event by event, the gauges that are wrong in them, and what is possible. Assumes nothing: these are definitions.
use Rattle.std.specs.Prelude.{◌≡◌, ℕ, Bool, true, false, not, ◌&&◌, ◌||◌, List, [], ◌∷◌, ◌==◌, int_le}
use Rattle.theory.specs.Level.{Levels, Ranges, Within, Rates, Moves}
use Rattle.theory.specs.History.{Reading, measured, Event, step, reads, FaultSet, AtMost, History}

-- Levels event by event: now, and before each event, the newest first and the start last. They began within the ranges,
-- moved in each step as they may, and stayed over each reading, whatever it said.
pub data Trajectory (n : ℕ) (start : Ranges) : List Event → Levels → List Levels → Type 0 where
  began : (x : Levels) → Within n start x → Trajectory n start [] x []
  stepped :
      (x y : Levels) (r : Rates) (es : List Event) (before : List Levels) → Trajectory n start es x before → Moves n r x y →
      Trajectory n start (step r ∷ es) y (x ∷ before)
  stayed :
      (x : Levels) (r : Reading) (es : List Event) (before : List Levels) → Trajectory n start es x before →
      Trajectory n start (reads r ∷ es) x (x ∷ before)

-- Whether a reading is right of the levels.
abbrev pub right : Reading → Levels → Bool
right r x = int_le r.low (measured r x) && int_le (measured r x) r.high

-- The gauges that are wrong: those of which a reading does not hold of the levels at that moment.
abbrev pub wrong : List Event → Levels → List Levels → FaultSet
wrong [] x before a = false
wrong (step r ∷ es) x [] a = false
wrong (step r ∷ es) x (y ∷ before) a = wrong es y before a
wrong (reads r ∷ es) x [] a = false
wrong (reads r ∷ es) x (y ∷ before) a = (r.gauge == a && not (right r x)) || wrong es y before a

-- Levels are possible after the events, if at most f of g gauges are wrong: some trajectory with so few wrong gauges
-- ends in them.
pub record Possible (n g f : ℕ) (start : Ranges) (es : List Event) (x : Levels) : Type 0 where
  pub before : List Levels
  pub trajectory : Trajectory n start es x before
  pub few_wrong : AtMost f g (wrong es x before)

abbrev pub NonePossible : (n g f : ℕ) → Ranges → List Event → Type 0
NonePossible n g f start es = (x : Levels) → Possible n g f start es x → ⊥

-- A gauge is wrong in all histories: in every trajectory with at most f wrong gauges it is one of them.
abbrev pub AlwaysWrong : (n g f : ℕ) → Ranges → List Event → ℕ → Type 0
AlwaysWrong n g f start es a = (x : Levels) (p : Possible n g f start es x) → wrong es x p.before a ≡ true

-- ---- the same, by fault sets
-- Levels in which a history for a set of at most f of g gauges ends.
pub record Explained (n g f : ℕ) (start : Ranges) (es : List Event) (x : Levels) : Type 0 where
  pub faults : FaultSet
  pub few : AtMost f g faults
  pub history : History n start faults es x

-- A gauge is in every such set that has a history.
abbrev pub AlwaysBlamed : (n g f : ℕ) → Ranges → List Event → ℕ → Type 0
AlwaysBlamed n g f start es a = (x : Levels) (p : Explained n g f start es x) → p.faults a ≡ true
