use Rattle.zones.specs.Loan.{SameLoan}
use Rattle.zones.proofs.Flooring.{Column}
use Rattle.zones.proofs.lent.Zone+u64.floor_basin.Given as goal

abbrev pub invariant-loop-i : goal.invariant-loop-i
invariant-loop-i l = record {
  lent : SameLoan l.fn.self l.self;
  floored : Column l.fn.self.basins l.j l.i l.fn.self.numbers.now l.self.numbers.now;
}
