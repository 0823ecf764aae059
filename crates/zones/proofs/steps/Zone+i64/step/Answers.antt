use Rattle.std.proofs.Common.{◌∙◌}
use Rattle.zones.proofs.Stepping.{steps}
use Rattle.zones.proofs.steps.Zone+i64.step.Goals as goal

pub returns-clause-far : goal.returns-clause-far
returns-clause-far c =
    let e = c.close.ensures.lent.0 in let f = c.widen.ensures.lent.0 ∙ e in
    steps c.args.self.now.basins c.args.rates.now _ _ _ _ c.requires c.close.ensures.far
    (rw e at c.widen.ensures.widened) (rw f at c.close-2.ensures.far)
