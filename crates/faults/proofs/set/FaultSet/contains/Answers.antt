use Rattle.std.proofs.Common.{◌≡◌, ◌/◌, ◌^◌, ◌<◌, false, eqb, ap, arith, rules}
use lib.Bits.{and_mask}
use Rattle.std.proofs.lemmas.Bool.Decides.{nat_tests}
use Rattle.faults.proofs.Bits.{bit_past}
use Rattle.faults.specs.Sets.{bit_set}
use Rattle.faults.proofs.set.FaultSet.contains.Goals as goal

pub returns-then-gauge-lt-BITS : goal.returns-then-gauge-lt-BITS
unfolding bit_set
returns-then-gauge-lt-BITS c = ap (λ m. eqb m 1) (and_mask (c.args.self.bits / 2 ^ c.args.gauge) 1)

pub returns-else-gauge-lt-BITS : goal.returns-else-gauge-lt-BITS
returns-else-gauge-lt-BITS c =
    let fits : c.args.self.bits < 2 ^ 16 = search rules in
    let past : bit_set c.args.self.bits c.args.gauge ≡ false =
    bit_past c.args.self.bits 16 c.args.gauge fits (omega arith) in
    grind (arith, nat_tests)
