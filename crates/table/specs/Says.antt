-- What each public function answers. Assumes nothing: these are definitions.
use Rattle.std.specs.Prelude.{◌≡◌, ℕ, ◌+◌, List, [], ◌∷◌, ◌++◌, length, ℤ, None, vec_items, vec_len, Result}
use Rattle.refusal.specs.Order.{or_else, Answers, Makes}
use Rattle.refusal.specs.declared.failure.Failure.{Failure}
use Rattle.refusal.specs.declared.kinds.Refusal.{Refusal}
use Rattle.faults.specs.declared.set.FaultSet.{FaultSet}
use Rattle.plant.specs.declared.kinds.Event.{Event}
use Rattle.plant.specs.declared.kinds.GaugeReading.{GaugeReading}
use Rattle.plant.specs.declared.whole.Plant.{Plant}
use Rattle.plant.specs.Events.{reading_refused, event_refused, row_refused, step_count, taken}
use Rattle.plant.specs.Resolve.{placed_reading}
use Rattle.table.specs.declared.state.Observer.{Observer}
use Rattle.table.specs.Parts.{table_refused, AllStart, AllStep, AllRead}
use Rattle.table.specs.Tracks.{Tracks}

-- ---- a table that is lent: numbers xs before and ys after, with the answer r between them
abbrev pub StartSays : Plant → List FaultSet → List ℤ → Result Unit Refusal → List ℤ → Type 0
StartSays p sets xs r ys =
    Answers r (table_refused p.basins (length sets) (length xs))
    (λ _. AllStart p.basins (vec_items p.ranges) (length sets) ys) (ys ≡ xs)

abbrev pub StepSays : Plant → List FaultSet → List ℤ → Result Unit Refusal → List ℤ → Type 0
StepSays p sets xs r ys =
    Answers r (table_refused p.basins (length sets) (length xs))
    (λ _. AllStep p.basins (vec_items p.rates) (length sets) xs ys) (ys ≡ xs)

abbrev pub ReadSays : Plant → List FaultSet → GaugeReading → List ℤ → Result Unit Refusal → List ℤ → Type 0
ReadSays p sets reading xs r ys =
    Answers r
    (or_else (table_refused p.basins (length sets) (length xs)) (reading_refused (vec_len p.gauges) reading))
    (λ _. AllRead p.basins (placed_reading (vec_items p.gauges) reading) reading.gauge sets xs ys) (ys ≡ xs)

-- ---- an observer: o before and q after
-- The same plant with the same gauges, after one more event: whatever was tracked is tracked with it.
pub record Takes (e : Event) (o q : Observer) : Type 0 where
  pub plant : q.plant ≡ o.plant
  pub in_play : q.in_play ≡ o.in_play
  pub steps : q.steps ≡ o.steps + step_count e
  pub tracks : (es : List Event) → Tracks o es → Tracks q (es ++ (e ∷ []))

abbrev pub TakeSays : Event → Observer → Result Unit Refusal → Observer → Type 0
TakeSays e o r q = Answers r (event_refused o.in_play o.steps e) (λ _. Takes e o q) (q ≡ o)

-- A whole list, event by event: those that were taken are tracked, and there are `count` of them.
pub record TakesAll (events : List Event) (o : Observer) (count : ℕ) (q : Observer) : Type 0 where
  pub plant : q.plant ≡ o.plant
  pub in_play : q.in_play ≡ o.in_play
  pub counted : count ≡ length (taken o.in_play o.steps events)
  pub tracks : (es : List Event) → Tracks o es → Tracks q (es ++ taken o.in_play o.steps events)

-- An observer of a plant: no plant is refused, and no event has been taken.
pub record Begins (p : Plant) (o : Observer) : Type 0 where
  pub plant : o.plant ≡ p
  pub in_play : o.in_play ≡ vec_len p.gauges
  pub steps : o.steps ≡ 0
  pub tracks : Tracks o []

abbrev pub NewSays : Plant → Result Observer Failure → Type 0
NewSays p r = Makes r None (Begins p)

-- An observer that has taken a whole row, which is refused as a whole.
pub record HasTaken (p : Plant) (es : List Event) (o : Observer) : Type 0 where
  pub plant : o.plant ≡ p
  pub in_play : o.in_play ≡ vec_len p.gauges
  pub tracks : Tracks o es

abbrev pub AfterSays : Plant → List Event → Result Observer Failure → Type 0
AfterSays p es r = Makes r (row_refused (vec_len p.gauges) es) (HasTaken p es)
