use Rattle.std.proofs.Common.{rules}
use Rattle.zones.proofs.Growing.{taken}
use Rattle.zones.proofs.Lending.{widened_by}
use Rattle.zones.proofs.lent.widen_zone.Goals as goal

pub grow-requires : goal.grow-requires
grow-requires c =
    let t = taken c.args.n c.args.rise.now c.args.fall.now c.args.zone.now c.in_ok-check_lent.ensures in search rules

pub returns : goal.returns
returns c =
    let floored = rw c.grow.ensures.lent.0 at c.floor.ensures.floored in
    let left = widened_by c.args.n c.args.rise.now c.args.fall.now c.args.zone.now c.grow.new.self.numbers.now
    c.floor.new.self.numbers.now c.grow.ensures.grown floored in
    (c.in_ok-check_lent.ensures, search rules)
