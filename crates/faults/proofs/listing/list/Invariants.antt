use Rattle.std.proofs.Common.{◌≡◌, vec_items}
use Rattle.faults.proofs.Order.{listing}
use Rattle.faults.proofs.listing.list.Given as goal

abbrev pub invariant-loop-size : goal.invariant-loop-size
invariant-loop-size l = vec_items l.sets ≡ listing l.size-counter l.gauges
