use Rattle.std.proofs.Common.{rules, pos}
use Rattle.zones.specs.Numbers.{cell}
use Rattle.zones.proofs.steps.Zone+i64.widen.Goals as goal

pub returns-clause-widened : goal.returns-clause-widened
unfolding cell
returns-clause-widened c = λ i j hi hj. let k = c.map.ensures.each i j hi hj (pos 0) in search rules
