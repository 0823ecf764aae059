use Rattle.std.proofs.Common.{◌≡◌, ◌+◌, ◌≤◌, [], Some, None, vec_len, ap, ◌∙◌, subst, arith, rules}
use Rattle.refusal.specs.Order.{or_else}
use Rattle.refusal.proofs.Orders.{neither}
use Rattle.plant.specs.Events.{readings_refused, steps_refused, row_refused, steps_in, taken}
use Rattle.plant.proofs.Rows.{steps_few, taken_all}
use Rattle.table.specs.Tracks.{Tracks}
use Rattle.table.proofs.state.Observer.after.Goals as goal

pub returns-in_err-check_readings : goal.returns-in_err-check_readings
returns-in_err-check_readings c =
    let es = c.args.events.now in
    let g = vec_len c.args.plant.gauges in
    let found : row_refused g es ≡ Some c.in_err-check_readings.field-0.0 =
    ap (λ o. or_else o (steps_refused es))
    (subst (λ k. readings_refused k es ≡ Some c.in_err-check_readings.field-0.0) c.len.ensures
    c.in_err-check_readings.ensures) in
    search rules

pub returns : goal.returns
returns c =
    let es = c.args.events.now in
    let g = vec_len c.args.plant.gauges in
    let o = c.in_ok-observer.observer in
    let begun = c.in_ok-observer.ensures.1 in
    let all = c.take_all.ensures in
    let readings : readings_refused g es ≡ None =
    subst (λ k. readings_refused k es ≡ None) c.len.ensures c.in_ok-check_readings.ensures in
    let steps : steps_refused es ≡ None = c.in_ok-check_steps.ensures in
    let few : 0 + steps_in es ≤ 1000000 = let s = steps_few es steps in omega arith in
    let whole : taken o.in_play o.steps es ≡ es =
    ap (λ k. taken k o.steps es) begun.in_play ∙ ap (λ k. taken g k es) begun.steps ∙ taken_all g 0 es readings few in (
      neither _ _ readings steps,
      record {
        plant = all.plant ∙ begun.plant;
        in_play = all.in_play ∙ begun.in_play;
        tracks = subst (Tracks c.take_all.new.self) whole (all.tracks [] begun.tracks);
      },
    )
