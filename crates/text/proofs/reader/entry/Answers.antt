use Rattle.std.proofs.Common.{◌∷◌, [], pos, sym, rules}
use Rattle.text.specs.declared.entry.Entry.TheVariants.{Basins, Gauges, Wrong, Range, Rate, Gauge, Step, Read, Show, Alarm}
use Rattle.text.proofs.Steps.{holds_listed, fails_as, made_as}
use Rattle.text.proofs.reader.entry.Goals as goal

pub returns-in-basins : goal.returns-in-basins
returns-in-basins c =
    made_as c.args.format c.args.words (Basins (pos 0)) c.in-basins.is tt c.count.result _ (λ z. z ∷ []) c.count.ensures
    c.map.ensures.cases (λ z e h. search rules)

pub returns-in-gauges : goal.returns-in-gauges
returns-in-gauges c =
    made_as c.args.format c.args.words (Gauges (pos 0)) c.in-gauges.is tt c.count-in-gauges.result _ (λ z. z ∷ []) c.count-in-gauges.ensures
    c.map-in-gauges.ensures.cases (λ z e h. search rules)

pub returns-in-wrong : goal.returns-in-wrong
returns-in-wrong c =
    made_as c.args.format c.args.words (Wrong (pos 0)) c.in-wrong.is tt c.count-in-wrong.result _ (λ z. z ∷ []) c.count-in-wrong.ensures
    c.map-in-wrong.ensures.cases (λ z e h. search rules)

pub returns-in-step : goal.returns-in-step
returns-in-step c =
    made_as c.args.format c.args.words Step c.in-step.is tt c.end.result _ (λ _. []) c.end.ensures c.map-in-step.ensures.cases
    (λ z e h. search rules)

pub returns-in-show : goal.returns-in-show
returns-in-show c =
    made_as c.args.format c.args.words Show c.in-show.is tt c.end-in-show.result _ (λ _. []) c.end-in-show.ensures c.map-in-show.ensures.cases
    (λ z e h. search rules)

pub returns-in_err-basin-in-range : goal.returns-in_err-basin-in-range
returns-in_err-basin-in-range c =
    fails_as c.args.format c.args.words (Range (pos 0) (pos 0) (pos 0)) c.in-range.is tt _ _ c.from_residual.ensures.1
    c.in_err-basin-in-range.ensures

pub returns-in_ok-basin-in-range : goal.returns-in_ok-basin-in-range
returns-in_ok-basin-in-range c =
    (tt, sym c.in-range.is, holds_listed c.args.words 3 c.in_ok-basin-in-range.field-0 (search rules) c.in_ok-basin-in-range.ensures)

pub returns-in_err-basin-in-rate : goal.returns-in_err-basin-in-rate
returns-in_err-basin-in-rate c =
    fails_as c.args.format c.args.words (Rate (pos 0) (pos 0) (pos 0)) c.in-rate.is tt _ _ c.from_residual-in_err-basin-in-rate.ensures.1
    c.in_err-basin-in-rate.ensures

pub returns-in_ok-basin-in-rate : goal.returns-in_ok-basin-in-rate
returns-in_ok-basin-in-rate c =
    (tt, sym c.in-rate.is, holds_listed c.args.words 3 c.in_ok-basin-in-rate.field-0 (search rules) c.in_ok-basin-in-rate.ensures)

pub returns-in_err-gauge-in-gauge : goal.returns-in_err-gauge-in-gauge
returns-in_err-gauge-in-gauge c =
    fails_as c.args.format c.args.words (Gauge (pos 0) (pos 0) (pos 0)) c.in-gauge.is tt _ _ c.from_residual-in_err-gauge-in-gauge.ensures.1
    c.in_err-gauge-in-gauge.ensures

pub returns-in_ok-gauge-in-gauge : goal.returns-in_ok-gauge-in-gauge
returns-in_ok-gauge-in-gauge c =
    (tt, sym c.in-gauge.is, holds_listed c.args.words 3 c.in_ok-gauge-in-gauge.field-0 (search rules) c.in_ok-gauge-in-gauge.ensures)

pub returns-in_err-gauge-in-read : goal.returns-in_err-gauge-in-read
returns-in_err-gauge-in-read c =
    fails_as c.args.format c.args.words (Read (pos 0) (pos 0) (pos 0)) c.in-read.is tt _ _ c.from_residual-in_err-gauge-in-read.ensures.1
    c.in_err-gauge-in-read.ensures

pub returns-in_ok-gauge-in-read : goal.returns-in_ok-gauge-in-read
returns-in_ok-gauge-in-read c =
    (tt, sym c.in-read.is, holds_listed c.args.words 3 c.in_ok-gauge-in-read.field-0 (search rules) c.in_ok-gauge-in-read.ensures)

pub returns-in_err-basin-in-alarm : goal.returns-in_err-basin-in-alarm
returns-in_err-basin-in-alarm c =
    fails_as c.args.format c.args.words (Alarm (pos 0) (pos 0)) c.in-alarm.is (search rules) _ _
    c.from_residual-in_err-basin-in-alarm.ensures.1 c.in_err-basin-in-alarm.ensures
