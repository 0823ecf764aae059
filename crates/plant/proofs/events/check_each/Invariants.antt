use Rattle.std.proofs.Common.{Option}
use Rattle.refusal.specs.declared.kinds.Refusal.{Refusal}
use Rattle.refusal.proofs.Firsts.{Clear}
use Rattle.plant.specs.declared.kinds.GaugeReading.{GaugeReading}
use Rattle.plant.specs.Events.{AnswersBy, of_reading}
use Rattle.plant.proofs.events.check_each.Given as goal

abbrev pub invariant-loop-event : goal.invariant-loop-event
invariant-loop-event g l =
    (refused : GaugeReading → Option Refusal) → AnswersBy (goal.F-post g l.check) refused →
    Clear (of_reading refused) l.events l.event-index
