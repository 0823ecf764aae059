-- Proved in proofs/Trajectories.antt.
use Rattle.theory.proofs.wrong_or_blamed_stands.Goals as goal
use Rattle.theory.proofs.Trajectories.{wrong_or_blamed}

pub returns : goal.returns
returns c = wrong_or_blamed
