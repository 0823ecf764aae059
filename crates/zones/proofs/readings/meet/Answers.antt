use Rattle.std.proofs.Common.{length, rules}
use Rattle.zones.specs.Checks.{size_refused, reading_refused}
use Rattle.refusal.proofs.Orders.{neither}
use Rattle.zones.proofs.Near.{reads_near}
use Rattle.zones.proofs.readings.meet.Goals as goal

pub returns-clause-said : goal.returns-clause-said
returns-clause-said c = (
  neither (size_refused c.args.basins (length c.args.zone.now)) (reading_refused c.args.basins c.args.reading)
      c.in_ok-check_size.ensures.found c.in_ok-check_reading.ensures,
  let left = reads_near c.args.basins c.args.reading c.args.zone.now c.meet.new.self.numbers.now c.meet.ensures.far in
      search rules,
)
