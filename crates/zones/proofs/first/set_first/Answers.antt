use Rattle.std.proofs.Common.{length, pos, rules}
use Rattle.zones.specs.Checks.{size_refused, range_refused}
use Rattle.zones.specs.Numbers.{cell}
use Rattle.refusal.proofs.Orders.{neither}
use Rattle.zones.proofs.Starting.{starts}
use Rattle.zones.proofs.first.set_first.Goals as goal

pub returns : goal.returns
unfolding cell
returns c = (
  neither (size_refused c.args.basins (length c.args.zone.now))
      (range_refused c.args.basins c.args.ranges.now) c.in_ok-check_size.ensures.found
      c.in_ok-check_ranges.ensures,
  starts c.args.basins c.args.ranges.now _ c.in_ok-check_ranges.ensures
      (λ i j hi hj. let k = c.map.ensures.each i j hi hj (pos 0) in search rules),
)
