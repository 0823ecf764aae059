-- What the gauges say, sets of gauges that may be wrong, and the histories of levels for such a set.
-- Assumes nothing: these are definitions.
use Rattle.std.specs.Prelude.{◌≡◌, ℕ, zero, suc, ◌+◌, ◌≤◌, Bool, false, cond, List, [], ◌∷◌, ℤ, neg_ℤ, ◌≤ℤ◌}
use Rattle.theory.specs.Bound.{at_most}
use Rattle.theory.specs.Level.{Levels, difference, Ranges, Within, Rates, Moves}
use Rattle.theory.specs.Zone.{Zone, meet}

-- A gauge says that level `first` is above level `second` by at least low and at most high. A gauge of one level has
-- the datum as its second.
pub record Reading : Type 0 where
  pub gauge : ℕ
  pub first : ℕ
  pub second : ℕ
  pub low : ℤ
  pub high : ℤ

-- What a reading is about.
abbrev pub measured : Reading → Levels → ℤ
measured r x = difference x r.first r.second

-- The gauge is right in this reading, of the levels at that moment.
abbrev pub Right : Reading → Levels → Type 0
Right r x = (r.low ≤ℤ measured r x) × (measured r x ≤ℤ r.high)

-- The levels of a zone at which a reading is right.
abbrev pub meet_reading : Reading → Zone → Zone
meet_reading r z = meet r.first r.second (at_most r.high) (meet r.second r.first (at_most (neg_ℤ r.low)) z)

-- What can come: a step in time, with what each level can do in it, or a reading.
pub data Event : Type 0 where
  step : Rates → Event
  reads : Reading → Event

-- Readings are of the levels 0 to n.
abbrev pub Placed : ℕ → List Event → Type 0
Placed n [] = Unit
Placed n (step r ∷ es) = Placed n es
Placed n (reads r ∷ es) = (r.first ≤ n) × (r.second ≤ n) × Placed n es

-- A set of gauges.
abbrev pub FaultSet : Type 0
FaultSet = ℕ → Bool

-- How many of the gauges below g are in it.
abbrev pub count : ℕ → FaultSet → ℕ
count zero w = 0
count (suc g) w = cond (w g) 1 0 + count g w

-- At most f gauges, all of them below g. What a gauge from g on reads can thus not be wrong.
pub record AtMost (f g : ℕ) (w : FaultSet) : Type 0 where
  pub few : count g w ≤ f
  pub known : (a : ℕ) → g ≤ a → w a ≡ false

-- The histories for a fault set, events newest first, that end in the given levels: they began within the ranges, moved
-- in each step as they may, and stayed over each reading, which is right unless its gauge is in the set.
pub data History (n : ℕ) (start : Ranges) (w : FaultSet) : List Event → Levels → Type 0 where
  begin : (x : Levels) → Within n start x → History n start w [] x
  moved :
      (x y : Levels) (r : Rates) (es : List Event) → History n start w es x → Moves n r x y →
      History n start w (step r ∷ es) y
  agreed :
      (x : Levels) (r : Reading) (es : List Event) → History n start w es x → (w r.gauge ≡ false → Right r x) →
      History n start w (reads r ∷ es) x
