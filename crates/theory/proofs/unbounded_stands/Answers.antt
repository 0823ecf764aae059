-- Proved in proofs/Reach.antt.
use Rattle.theory.proofs.unbounded_stands.Goals as goal
use Rattle.theory.proofs.Reach.{unbounded}

pub returns : goal.returns
returns c = unbounded
