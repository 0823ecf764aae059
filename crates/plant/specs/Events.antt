-- Which events are taken. Assumes nothing: these are definitions.
use Rattle.std.specs.Prelude.{ℕ, ◌+◌, cond, List, [], ◌∷◌, is_some, None, Option, Result, nat_le, nat_lt}
use Rattle.refusal.specs.Order.{when, or_else, first_of, Found}
use Rattle.refusal.specs.declared.kinds.Refusal.{Refusal}
use Rattle.refusal.specs.declared.kinds.Refusal.TheVariants as refuses
use Rattle.zones.specs.Checks as zone
use Rattle.plant.specs.declared.kinds.Event.{Event}
use Rattle.plant.specs.declared.kinds.Event.TheVariants as event
use Rattle.plant.specs.declared.kinds.GaugeReading.{GaugeReading}

-- ---- one event
-- Gauges are numbered from 0.
abbrev pub gauge_refused : ℕ → GaugeReading → Option Refusal
gauge_refused g r = when (nat_le g r.gauge) (refuses.NoGauge r.gauge)

-- The ends of a reading are in order, and within a million either way.
abbrev pub ends_refused : GaugeReading → Option Refusal
ends_refused r = zone.ends_refused r.low r.high

-- A reading, where g gauges are in play.
abbrev pub reading_refused : ℕ → GaugeReading → Option Refusal
reading_refused g r = or_else (gauge_refused g r) (ends_refused r)

-- One more step after k: a million are taken, and the next is the first that is not.
abbrev pub step_refused : ℕ → Option Refusal
step_refused k = when (nat_le 1000000 k) (refuses.Steps 1000001)

abbrev pub event_refused : (gauges steps : ℕ) → Event → Option Refusal
event_refused g k event.Step = step_refused k
event_refused g k (event.Reading r) = reading_refused g r

-- ---- a row of events
-- How many steps are among them.
abbrev pub step_count : Event → ℕ
step_count event.Step = 1
step_count (event.Reading r) = 0

abbrev pub steps_in : List Event → ℕ
steps_in [] = 0
steps_in (e ∷ es) = step_count e + steps_in es

-- What is said of an event if it is a reading.
abbrev pub of_reading : (GaugeReading → Option Refusal) → Event → Option Refusal
of_reading f event.Step = None
of_reading f (event.Reading r) = f r

-- Whatever a check answers at a reading, it is by what is refused of the reading.
abbrev pub AnswersBy : (GaugeReading → Result Unit Refusal → Type 0) → (GaugeReading → Option Refusal) → Type 0
AnswersBy answers refused = (r : GaugeReading) (a : Result Unit Refusal) → answers r a → Found a (refused r)

-- The readings of a row: a gauge that is not there comes before ends that are not in order, wherever they stand.
abbrev pub readings_refused : ℕ → List Event → Option Refusal
readings_refused g es = or_else (first_of (of_reading (gauge_refused g)) es) (first_of (of_reading ends_refused) es)

-- The steps of a row.
abbrev pub steps_refused : List Event → Option Refusal
steps_refused es = when (nat_lt 1000000 (steps_in es)) (refuses.Steps 1000001)

-- A row about which something is asked.
abbrev pub row_refused : ℕ → List Event → Option Refusal
row_refused g es = or_else (readings_refused g es) (steps_refused es)

-- The events of a row that are taken one by one, where g gauges are in play and k steps were taken before: those that are
-- refused change nothing.
abbrev pub taken : (gauges steps : ℕ) → List Event → List Event
taken g k [] = []
taken g k (e ∷ es) = cond (is_some (event_refused g k e)) (taken g k es) (e ∷ taken g (k + step_count e) es)
