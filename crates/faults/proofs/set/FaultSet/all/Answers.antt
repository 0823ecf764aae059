use Rattle.std.proofs.Common.{◌≡◌, ◌*◌, ◌%◌, ◌^◌, ltb, arith}
use Rattle.std.proofs.lemmas.Nat.{one_shl}
use Rattle.std.proofs.lemmas.Bool.Decides.{nat_tests}
use Rattle.faults.proofs.Bits.{bit_all}
use Rattle.faults.specs.Sets.{bit_set}
use Rattle.faults.proofs.set.FaultSet.all.Goals as goal

pub returns-then-gauges-lt-BITS : goal.returns-then-gauges-lt-BITS
returns-then-gauges-lt-BITS c a =
    let whole : 1 * 2 ^ c.args.gauges % 65536 ≡ 2 ^ c.args.gauges = one_shl c.args.gauges 16 (omega arith) in
    simp (whole, bit_all c.args.gauges a) (grind (arith, nat_tests))

pub returns-else-gauges-lt-BITS : goal.returns-else-gauges-lt-BITS
returns-else-gauges-lt-BITS c a = let e : bit_set 65535 a ≡ ltb a 16 = bit_all 16 a in grind (arith, nat_tests)
