use Rattle.std.proofs.Common.{◌^◌, ◌<◌, sym, refl, ap, ◌∙◌, mod-eq_of_lt, rules}
use lib.Count.{ones}
use Rattle.faults.proofs.Bits.{count_bits}
use Rattle.faults.proofs.set.FaultSet.len.Goals as goal

pub returns : goal.returns
returns c =
    let fits : c.args.self.bits < 2 ^ 16 = search rules in
    record { value = refl; gauges = sym (count_bits 16 c.args.self.bits ∙ ap ones (mod-eq_of_lt fits)) }
