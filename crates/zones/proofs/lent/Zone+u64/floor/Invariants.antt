use Rattle.zones.specs.Loan.{SameLoan}
use Rattle.zones.proofs.Flooring.{Columns}
use Rattle.zones.proofs.lent.Zone+u64.floor.Given as goal

abbrev pub invariant-loop-j : goal.invariant-loop-j
invariant-loop-j l = record {
  lent : SameLoan l.fn.self l.self;
  floored : Columns l.fn.self.basins l.j l.fn.self.numbers.now l.self.numbers.now;
}
