-- What is answered to a request: from an observer, and for a plant with a whole row of events. Assumes nothing: these are
-- definitions.
use Rattle.std.specs.Prelude.{ℕ, ◌||◌, List, ℤ, None, vec_len, Option, Result, ◌==◌, nat_lt}
use Rattle.refusal.specs.Order.{when, or_else, Answers, Makes}
use Rattle.refusal.specs.declared.failure.Failure.{Failure}
use Rattle.refusal.specs.declared.kinds.Refusal.{Refusal}
use Rattle.refusal.specs.declared.kinds.Refusal.TheVariants as refuses
use Rattle.plant.specs.declared.kinds.Event.{Event}
use Rattle.plant.specs.declared.whole.Plant.{Plant}
use Rattle.plant.specs.Events.{readings_refused, steps_refused}
use Rattle.plant.specs.Resolve.{resolved, start_of}
use Rattle.table.specs.declared.state.Observer.{Observer}
use Rattle.table.specs.Tracks.{Tracks}
use Rattle.shown.specs.declared.kinds.Request.{Request}
use Rattle.shown.specs.declared.kinds.Request.TheVariants as request
use Rattle.shown.specs.declared.kinds.Alarm.{Alarm}
use Rattle.shown.specs.declared.kinds.Names.{Names}
use Rattle.shown.specs.declared.kinds.Span.{Span}
use Rattle.shown.specs.declared.kinds.Answer.{Answer}
use Rattle.shown.specs.declared.kinds.Answer.TheVariants as answer
use Rattle.shown.specs.Meaning.{Means}

-- Basins count from 1: 0 is the datum, which is no basin.
abbrev pub basin_refused : ℕ → ℕ → Option Refusal
basin_refused n b = when (nat_lt b 1 || nat_lt n b) refuses.NoBasin

abbrev pub pair_refused : ℕ → ℕ → ℕ → Option Refusal
pair_refused n b c = or_else (basin_refused n b) (or_else (basin_refused n c) (when (b == c) refuses.SameBasin))

abbrev pub request_refused : ℕ → Request → Option Refusal
request_refused n (request.Basin b) = basin_refused n b
request_refused n (request.Difference b c) = pair_refused n b c
request_refused n request.Names = None
request_refused n (request.Alarm b limit) = basin_refused n b

-- The answer after a plant's events, whichever they are, if at most f of g gauges are wrong in them.
abbrev pub TrueOf : Plant → ℕ → List Event → Request → Answer → Type 0
TrueOf p g es = Means p.basins g p.wrong (start_of p) (resolved p es)

-- ---- an observer answers of all events that it tracks
abbrev pub Observed : Observer → Request → Answer → Type 0
Observed o q a = (es : List Event) → Tracks o es → TrueOf o.plant o.in_play es q a

abbrev pub ObservedSays : Observer → Request → Result Answer Refusal → Type 0
ObservedSays o q r = Answers r (request_refused o.plant.basins q) (Observed o q) Unit

abbrev pub BasinSays : Observer → ℕ → Result Span Refusal → Type 0
BasinSays o b r = Answers r (basin_refused o.plant.basins b) (λ s. Observed o (request.Basin b) (answer.Span s)) Unit

abbrev pub DifferenceSays : Observer → ℕ → ℕ → Result Span Refusal → Type 0
DifferenceSays o b c r =
    Answers r (pair_refused o.plant.basins b c) (λ s. Observed o (request.Difference b c) (answer.Span s)) Unit

abbrev pub AlarmSays : Observer → ℕ → ℤ → Result Alarm Refusal → Type 0
AlarmSays o b limit r =
    Answers r (basin_refused o.plant.basins b) (λ a. Observed o (request.Alarm b limit) (answer.Alarm a)) Unit

abbrev pub NamesSay : Observer → Names → Type 0
NamesSay o m = Observed o request.Names (answer.Names m)

-- ---- a plant with a whole row of events
-- It is refused first by the readings, then by the request, then by the number of steps.
abbrev pub asked_refused : Plant → List Event → Request → Option Refusal
asked_refused p es q =
    or_else (readings_refused (vec_len p.gauges) es) (or_else (request_refused p.basins q) (steps_refused es))

-- For every row, what is shown is what the histories of its levels say, in which at most as many gauges are wrong as the
-- plant allows.
abbrev pub RowSays : Plant → List Event → Request → Result Answer Failure → Type 0
RowSays p es q r = Makes r (asked_refused p es q) (TrueOf p (vec_len p.gauges) es q)
