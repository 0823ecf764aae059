use Rattle.faults.proofs.Bits.{bit_of_and}
use Rattle.faults.proofs.set.FaultSet.intersect.Goals as goal

pub returns : goal.returns
returns c = bit_of_and c.args.self.bits c.args.other.bits
