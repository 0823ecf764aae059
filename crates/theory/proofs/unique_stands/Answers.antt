-- Proved in proofs/Reach.antt.
use Rattle.theory.proofs.unique_stands.Goals as goal
use Rattle.theory.proofs.Reach.{unique}

pub returns : goal.returns
returns c = unique
