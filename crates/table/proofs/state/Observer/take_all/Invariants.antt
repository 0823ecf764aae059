use Rattle.table.proofs.Tracking.{Underway}
use Rattle.table.proofs.state.Observer.take_all.Given as goal

abbrev pub invariant-loop-event : goal.invariant-loop-event
invariant-loop-event l = Underway l.initial.self l.self l.count l.event-index l.events
