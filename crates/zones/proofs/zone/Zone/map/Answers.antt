use Rattle.std.proofs.Common.{◌+◌, arith, add-mul}
use Rattle.zones.proofs.Mapping.{rows_more}
use Rattle.zones.proofs.zone.Zone.map.Goals as goal

pub loop-i-preserved : goal.loop-i-preserved
loop-i-preserved g c =
    let wide = add-mul c.loop-i.i 1 (c.args.self.now.basins + 1) in
    rows_more c.args.self.now.basins _ c.loop-i.i c.loop-j.j _ _ _ _ (omega arith) (omega arith) (omega arith)
    (omega arith) (omega arith) c.loop-i.invariant c.loop-j.invariant
