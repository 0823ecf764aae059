-- Proved in proofs/Widen.antt.
use Rattle.theory.proofs.widening_stands.Goals as goal
use Rattle.theory.proofs.Widen.{widening}

pub returns : goal.returns
returns c = widening
