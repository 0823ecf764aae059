use Rattle.std.proofs.Common.{◌≡◌, Some, ap, ◌∙◌, rules}
use Rattle.refusal.specs.Order.{first_of}
use Rattle.refusal.proofs.Firsts.{found_here, clear_next, all_clear}
use Rattle.plant.specs.declared.kinds.Event.TheVariants.{Step}
use Rattle.plant.specs.Events.{of_reading}
use Rattle.plant.proofs.events.check_each.Goals as goal
use Rattle.plant.proofs.events.check_each.Goals.{in-Reading+in_ok-check, in_default}

pub loop-event-preserved : goal.loop-event-preserved
loop-event-preserved g c = λ refused by. clear_next (of_reading refused) _ c.loop-event.event-index Step c.loop-event-test.true
    (c.loop-event.invariant refused by) (elim c.match-event.branch [
      | in-Reading+in_ok-check w ↦ ap (of_reading refused) w.in-Reading.is ∙ by _ _ w.in_ok-check.ensures
      | in_default w ↦ ap (of_reading refused) w.in_default.is
    ])

pub returns : goal.returns
returns g c = λ refused by. all_clear (of_reading refused) _ _ c.loop-event-test.false (c.loop-event.invariant refused by)

pub returns-in_err-check : goal.returns-in_err-check
returns-in_err-check g c = λ refused by.
    let found : first_of (of_reading refused) c.args.events.now ≡ Some c.in_err-check.field-0.0 =
    found_here (of_reading refused) _ c.loop-event.event-index Step _ c.loop-event-test.true
    (c.loop-event.invariant refused by) (ap (of_reading refused) c.in-Reading.is ∙ by _ _ c.in_err-check.ensures) in
    search rules
