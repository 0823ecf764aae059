use Rattle.std.proofs.Common.{◌≡◌, ℕ, List, Some, Option, vec_len, ap, ◌∙◌, subst, rules}
use Rattle.refusal.specs.Order.{or_else}
use Rattle.refusal.proofs.Orders.{both_none, neither}
use Rattle.refusal.specs.declared.kinds.Refusal.{Refusal}
use Rattle.plant.specs.Events.{readings_refused, steps_refused}
use Rattle.plant.specs.declared.kinds.Event.{Event}
use Rattle.plant.specs.declared.whole.Plant.{Plant}
use Rattle.shown.specs.Says.{TrueOf, request_refused, asked_refused}
use Rattle.shown.proofs.answers.answer_after.Goals as goal

-- the check of the readings is asked of the gauges by their count
of_gauges : (p : Plant) (es : List Event) (count : ℕ) (found : Option Refusal) → count ≡ vec_len p.gauges →
    readings_refused count es ≡ found → readings_refused (vec_len p.gauges) es ≡ found
of_gauges p es count found is e = subst (λ k. readings_refused k es ≡ found) is e

pub returns-in_err-check_readings : goal.returns-in_err-check_readings
returns-in_err-check_readings c =
    let es = c.args.events.now in
    let p = c.args.plant in
    let q = c.args.request in
    let found : asked_refused p es q ≡ Some c.in_err-check_readings.field-0.0 =
    ap (λ o. or_else o (or_else (request_refused p.basins q) (steps_refused es)))
    (of_gauges p es _ _ c.len.ensures c.in_err-check_readings.ensures) in
    search rules

pub returns-in_err-check_request : goal.returns-in_err-check_request
returns-in_err-check_request c =
    let es = c.args.events.now in
    let p = c.args.plant in
    let q = c.args.request in
    let found : asked_refused p es q ≡ Some c.in_err-check_request.field-0.0 =
    ap (λ o. or_else o (or_else (request_refused p.basins q) (steps_refused es)))
    (of_gauges p es _ _ c.len.ensures c.in_ok-check_readings.ensures)
    ∙ ap (λ o. or_else o (steps_refused es)) c.in_err-check_request.ensures in
    search rules

pub returns : goal.returns
returns c =
    let es = c.args.events.now in
    let p = c.args.plant in
    let q = c.args.request in
    let o = c.in_ok-observer.observer in
    let a = c.in_ok-answer.field-0 in
    let readings = of_gauges p es _ _ c.len.ensures c.in_ok-check_readings.ensures in
    let taken = c.in_ok-observer.ensures in
    let shown = c.in_ok-answer.ensures.1 es taken.1.tracks in (
      neither _ _ readings (neither _ _ c.in_ok-check_request.ensures (both_none _ _ taken.0).1),
      subst (λ g. TrueOf p g es q a) taken.1.in_play (subst (λ (v : Plant). TrueOf v o.in_play es q a) taken.1.plant shown),
    )
