use Rattle.zones.specs.Loan.{SameLoan}
use Rattle.zones.proofs.Settling.{Settled}
use Rattle.zones.proofs.turns.Zone+i64.settle.Given as goal

abbrev pub invariant-loop-j : goal.invariant-loop-j
invariant-loop-j l = record {
  lent : SameLoan l.fn.self l.self;
  settled : Settled l.fn.self.basins l.j l.fn.self.numbers.now l.self.numbers.now;
}
