-- What a plant's own events are to the theory, which speaks of readings with their places and of steps with their rates.
-- Assumes nothing: these are definitions.
use Rattle.std.specs.Prelude.{ℕ, List, map, reverse, vec_items, slice_index_or}
use Rattle.theory.specs.Level.{Ranges}
use Rattle.theory.specs.History as history
use Rattle.zones.specs.declared.kinds.Rate.{Rate}
use Rattle.zones.specs.declared.kinds.Reading.{Reading}
use Rattle.zones.specs.Change.{ranges_of, rates_of, reading_of}
use Rattle.plant.specs.declared.kinds.Event.{Event}
use Rattle.plant.specs.declared.kinds.Event.TheVariants as event
use Rattle.plant.specs.declared.kinds.Gauge.{Gauge}
use Rattle.plant.specs.declared.kinds.GaugeReading.{GaugeReading}
use Rattle.plant.specs.declared.whole.Plant.{Plant}

-- Where gauge a hangs.
abbrev pub gauge_at : List Gauge → ℕ → Gauge
gauge_at gs a = slice_index_or gs a (record { first = 0; second = 0 })

-- A reading with the two numbers at which its gauge hangs.
abbrev pub placed_reading : List Gauge → GaugeReading → Reading
placed_reading gs r = record {
  first = (gauge_at gs r.gauge).first;
  second = (gauge_at gs r.gauge).second;
  low = r.low;
  high = r.high;
}

abbrev pub resolve : List Rate → List Gauge → Event → history.Event
resolve rates gauges event.Step = history.step (rates_of rates)
resolve rates gauges (event.Reading r) = history.reads (reading_of r.gauge (placed_reading gauges r))

-- The events of a plant, oldest first as they came, as the theory has them, newest first.
abbrev pub resolved : Plant → List Event → List history.Event
resolved p es = reverse (map (resolve (vec_items p.rates) (vec_items p.gauges)) es)

-- The levels at which a plant may start.
abbrev pub start_of : Plant → Ranges
start_of p = ranges_of (vec_items p.ranges)
