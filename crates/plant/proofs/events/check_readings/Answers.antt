use Rattle.std.proofs.Common.{◌≡◌, Some, None, ap, sym, subst, rules}
use Rattle.refusal.specs.Order.{Found, or_else, first_of}
use Rattle.plant.specs.Events.{ends_refused, gauge_refused, of_reading, readings_refused}
use Rattle.plant.proofs.events.check_readings.Goals as goal

pub returns : goal.returns
returns c =
    let es = c.args.events.now in
    let there : first_of (of_reading (gauge_refused c.args.gauges)) es ≡ None =
    c.in_ok-check_each.ensures (gauge_refused c.args.gauges) (λ r a k. search rules) in
    subst (λ o. Found c.check_each-2.result (or_else o (first_of (of_reading ends_refused) es))) (sym there)
    (c.check_each-2.ensures ends_refused (λ r a k. search rules))

pub returns-in_err-check_each : goal.returns-in_err-check_each
returns-in_err-check_each c =
    let es = c.args.events.now in
    let found : readings_refused c.args.gauges es ≡ Some c.in_err-check_each.field-0.0 =
    ap (λ o. or_else o (first_of (of_reading ends_refused) es))
    (c.in_err-check_each.ensures (gauge_refused c.args.gauges) (λ r a k. search rules)) in
    search rules
