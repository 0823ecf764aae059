use Rattle.std.proofs.Common.{length, rules}
use Rattle.zones.specs.Checks.{size_refused, rate_refused}
use Rattle.refusal.proofs.Orders.{neither}
use Rattle.zones.proofs.Near.{steps_near}
use Rattle.zones.proofs.steps.step.Goals as goal

pub returns-clause-said : goal.returns-clause-said
returns-clause-said c = (
  neither (size_refused c.args.basins (length c.args.zone.now)) (rate_refused c.args.basins c.args.rates.now)
      c.in_ok-check_size.ensures.found c.in_ok-check_rates.ensures,
  let left = steps_near c.args.basins c.args.rates.now c.args.zone.now c.step.new.self.numbers.now c.step.ensures.far in
      search rules,
)
