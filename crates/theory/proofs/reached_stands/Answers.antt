-- Proved in proofs/Reach.antt.
use Rattle.theory.proofs.reached_stands.Goals as goal
use Rattle.theory.proofs.Reach.{reached}

pub returns : goal.returns
returns c = reached
