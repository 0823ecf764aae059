use Rattle.std.proofs.Common.{vec_items}
use Rattle.faults.proofs.Represent.{represents}
use Rattle.faults.proofs.listing.fault_sets.Goals as goal

pub returns : goal.returns
returns c =
    let listed = c.in_ok-list.ensures in
    record {
      listed = (c.in_ok-check_limits.ensures, listed);
      represents = represents c.args.wrong c.args.gauges (vec_items c.in_ok-list.field-0) listed;
    }
