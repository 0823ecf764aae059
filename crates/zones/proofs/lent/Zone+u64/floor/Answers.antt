use Rattle.std.proofs.Common.{◌∙◌, arith}
use Rattle.zones.proofs.Flooring.{columns_more}
use Rattle.zones.proofs.lent.Zone+u64.floor.Goals as goal

pub loop-j-preserved : goal.loop-j-preserved
loop-j-preserved c =
    let l = c.loop-j.invariant.lent in let m = c.floor_basin.ensures.lent in
    record {
      lent = (m.0 ∙ l.0, m.1 ∙ l.1);
      floored = columns_more c.args.self.now.basins c.loop-j.j _ _ _ (omega arith) (omega arith) c.loop-j.invariant.floored
          (rw l.0 at c.floor_basin.ensures.floored);
    }
