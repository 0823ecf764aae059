-- Histories and trajectories: fault sets and wrong gauges say the same of what is possible; what a further event and
-- another order of the readings do to it. Assumes nothing.
use Rattle.std.proofs.Common.{◌≡◌, ℕ, true, List, [], ◌∷◌, ◌++◌, Decides, ◌∙◌, arith}
use Rattle.std.proofs.lemmas.Int.{ints}
use Rattle.std.proofs.lemmas.Bool.{false≢true, or_right}
use Rattle.std.proofs.lemmas.Bool.Decides.{nat_tests}
use Rattle.theory.specs.Level.{Levels, Ranges}
use Rattle.theory.specs.History.{Reading, Right, Event, step, reads, FaultSet, History, begin, moved, agreed}
use Rattle.theory.specs.Possible.{Trajectory, began, stepped, stayed, right, wrong, Possible, Explained}
use Rattle.theory.specs.Promise.{WrongOrBlamed, StaysSo, LessPossible, OrderFree}
use Rattle.theory.proofs.Faults.{at_most_within}
use Rattle.theory.proofs.Keep.{before_event, before_reading}

-- The test of a reading tells whether it is right.
pub right_is : (r : Reading) (x : Levels) → Decides (right r x) (Right r x)
right_is r x = grind (arith, ints)

-- A history for a set is one for every set with the same gauges.
pub same_history :
    (n : ℕ) (start : Ranges) (w v : FaultSet) {es : List Event} {x : Levels} →
    ((a : ℕ) → w a ≡ v a) → History n start w es x → History n start v es x
same_history n start w v s (begin x p) = begin x p
same_history n start w v s (moved x y r es h m) = moved x y r es (same_history n start w v s h) m
same_history n start w v s (agreed x r es h f) = agreed x r es (same_history n start w v s h) (λ e. f (s r.gauge ∙ e))

-- A history for w has a trajectory with the same end, in which every wrong gauge is in w.
pub record Traced (n : ℕ) (start : Ranges) (w : FaultSet) (es : List Event) (x : Levels) : Type 0 where
  pub before : List Levels
  pub trajectory : Trajectory n start es x before
  pub blamed : (a : ℕ) → wrong es x before a ≡ true → w a ≡ true

pub trajectory_of :
    (n : ℕ) (start : Ranges) (w : FaultSet) {es : List Event} {x : Levels} → History n start w es x → Traced n start w es x
trajectory_of n start w (begin x p) = record { before = []; trajectory = began x p; blamed = λ a e. absurd (false≢true e) }
trajectory_of n start w (moved x y r es h m) =
    let t = trajectory_of n start w h in
    record { before = x ∷ t.before; trajectory = stepped x y r es t.before t.trajectory m; blamed = t.blamed }
trajectory_of n start w (agreed x r es h f) =
    let t = trajectory_of n start w h in
    record {
      before = x ∷ t.before;
      trajectory = stayed x r es t.before t.trajectory;
      blamed = λ a e.
          let k : wrong es x t.before a ≡ true → w a ≡ true = t.blamed a in
          let d : Right r x → right r x ≡ true = (right_is r x).1 in
          grind (arith, nat_tests);
    }

-- A trajectory is a history for every set that has its wrong gauges, and so for the set of these.
pub history_of :
    (n : ℕ) (start : Ranges) (v : FaultSet) {es : List Event} {x : Levels} {before : List Levels} →
    Trajectory n start es x before → ((a : ℕ) → wrong es x before a ≡ true → v a ≡ true) → History n start v es x
history_of n start v (began x p) h = begin x p
history_of n start v (stepped x y r es before t m) h = moved x y r es (history_of n start v t h) m
history_of n start v (stayed x r es before t) h =
    agreed x r es (history_of n start v t (λ a e. h a (or_right _ (wrong es x before a) e)))
    (λ e.
    let k : wrong (reads r ∷ es) x (x ∷ before) r.gauge ≡ true → v r.gauge ≡ true = h r.gauge in
    (right_is r x).0 (grind (arith, nat_tests)))

pub history_of_wrong :
    (n : ℕ) (start : Ranges) {es : List Event} {x : Levels} {before : List Levels} →
    Trajectory n start es x before → History n start (wrong es x before) es x
history_of_wrong n start {es} {x} {before} t = history_of n start (wrong es x before) t (λ a e. e)

-- ---- what is possible, by wrong gauges and by fault sets
module _ {n g f : ℕ} {start : Ranges} {es : List Event} {x : Levels} where
  pub explained : Possible n g f start es x → Explained n g f start es x
  explained p = record { faults = wrong es x p.before; few = p.few_wrong; history = history_of_wrong n start p.trajectory }

  pub possible : Explained n g f start es x → Possible n g f start es x
  possible p =
      let t = trajectory_of n start p.faults p.history in
      record {
        before = t.before;
        trajectory = t.trajectory;
        few_wrong = at_most_within f g (wrong es x t.before) p.faults t.blamed p.few;
      }

pub wrong_or_blamed : WrongOrBlamed
unfolding explained possible
wrong_or_blamed n g f start es = (
  λ x. (explained, possible),
  λ a. (
    λ h x p. (trajectory_of n start p.faults p.history).blamed a (h x (possible p)),
    λ h x p. h x (explained p),
  ),
)

-- What leads from histories to histories for the same set leads from possible levels to possible levels.
pub carried :
    {n g f : ℕ} {start : Ranges} {es later : List Event} {x y : Levels} →
    ((w : FaultSet) → History n start w es x → History n start w later y) →
    Possible n g f start es x → Possible n g f start later y
carried h q = let p = explained q in possible (record { faults = p.faults; few = p.few; history = h p.faults p.history })

-- ---- further events
pub stays_so : StaysSo
stays_so n g f start es e h y q =
    let p = explained q in
    let b = before_event p.history in
    h b.0 (possible (record { faults = p.faults; few = p.few; history = b.1 }))

pub less_possible : LessPossible
less_possible n g f start es r x = carried (λ w h. (before_reading h).0)

-- Two readings with no step between them change places.
swapped :
    (n : ℕ) (start : Ranges) (es later : List Event) (r s : Reading) (x : Levels) (w : FaultSet) →
    History n start w (later ++ (reads r ∷ reads s ∷ es)) x → History n start w (later ++ (reads s ∷ reads r ∷ es)) x
swapped n start es [] r s x w (agreed x₁ r₁ es₁ (agreed x₂ r₂ es₂ h k) f) = agreed x s (reads r ∷ es) (agreed x r es h f) k
swapped n start es (step q ∷ later) r s y w (moved x y₂ q₂ es₂ h m) =
    moved x y q (later ++ (reads s ∷ reads r ∷ es)) (swapped n start es later r s x w h) m
swapped n start es (reads q ∷ later) r s x w (agreed x₂ q₂ es₂ h f) =
    agreed x q (later ++ (reads s ∷ reads r ∷ es)) (swapped n start es later r s x w h) f

pub order_free : OrderFree
order_free n g f start es later r s x = carried (swapped n start es later r s x)
