-- Which numbers make a plant. Where several are refused, the smallest number decides, and then the smallest place.
-- Assumes nothing: these are definitions.
use Rattle.std.specs.Prelude.{ℕ, Bool, not, ◌||◌, List, length, Option, ◌==◌, nat_lt}
use Rattle.std.specs.Option.{option_map}
use Rattle.refusal.specs.Order.{when, or_else, first_bad}
use Rattle.refusal.specs.declared.kinds.Refusal.{Refusal}
use Rattle.refusal.specs.declared.kinds.Refusal.TheVariants as refuses
use Rattle.zones.specs.declared.kinds.Range.{Range}
use Rattle.zones.specs.declared.kinds.Rate.{Rate}
use Rattle.zones.specs.Checks.{basins_refused, ranges_refused, rates_refused}
use Rattle.faults.specs.Limits.{refusal_of}
use Rattle.plant.specs.declared.kinds.Gauge.{Gauge}

-- There are rates and a range for each basin.
abbrev pub lengths_refused : (basins rates ranges : ℕ) → Option Refusal
lengths_refused n rates ranges =
    or_else (when (not (rates == n)) (refuses.Length rates)) (when (not (ranges == n)) (refuses.Length ranges))

-- A gauge hangs at a basin, alone or above another; only the second may be the datum.
abbrev pub placed : ℕ → Gauge → Bool
placed n g = not (nat_lt g.first 1 || nat_lt n g.first || nat_lt n g.second || g.first == g.second)

abbrev pub placement_refused : ℕ → List Gauge → Option Refusal
placement_refused n gs = option_map refuses.Placement (first_bad (placed n) 0 gs)

-- The numbers make no plant.
abbrev pub plant_refused : (basins wrong : ℕ) → List Range → List Rate → List Gauge → Option Refusal
plant_refused n f ranges rates gauges =
    or_else (basins_refused n)
    (or_else (refusal_of (length gauges) f)
    (or_else (lengths_refused n (length rates) (length ranges))
    (or_else (rates_refused n rates)
    (or_else (ranges_refused n ranges) (placement_refused n gauges)))))
