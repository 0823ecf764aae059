use Rattle.std.proofs.Common.{get_or, sym, ◌∙◌, rules}
use Rattle.plant.specs.declared.kinds.Event.TheVariants.{Step}
use Rattle.table.proofs.Tracking.{underway_none, underway_skip, underway_more, underway_all, when_taken, when_refused}
use Rattle.table.proofs.state.Observer.take_all.Goals as goal
use Rattle.table.proofs.state.Observer.take_all.Goals.{then-is_ok, else-is_ok}

pub loop-event-init : goal.loop-event-init
loop-event-init c = underway_none c.args.self.now c.args.events.now

pub overflow_add-count : goal.overflow_add-count
overflow_add-count c = let few = c.loop-event.invariant.few in search rules

pub loop-event-preserved : goal.loop-event-preserved
loop-event-preserved c =
    let o = c.args.self.now in
    let q = c.loop-event.self in
    let q' = c.take.new.self in
    let i = c.loop-event.event-index in
    let es = c.args.events.now in
    let e = get_or es i Step in
    elim c.if-is_ok.branch [
      | then-is_ok w ↦
          let t = when_taken e q q' c.take.result c.take.ensures (sym c.is_ok.ensures.value ∙ w.if-is_ok.true) in
          simp w.count-is (underway_more o q c.loop-event.count i es c.loop-event.invariant Step c.loop-event-test.true q' t.0 t.1)
      | else-is_ok w ↦
          let t = when_refused e q q' c.take.result c.take.ensures (sym c.is_ok.ensures.value ∙ w.if-is_ok.false) in
          simp w.count-is (underway_skip o q c.loop-event.count i es c.loop-event.invariant Step c.loop-event-test.true t.0 q' t.1 t.2)
    ]

pub returns : goal.returns
returns c = underway_all c.args.self.now c.loop-event.self c.loop-event.count c.loop-event.event-index
    c.args.events.now c.loop-event.invariant c.loop-event-test.false
