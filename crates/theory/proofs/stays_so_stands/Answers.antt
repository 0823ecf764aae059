-- Proved in proofs/Trajectories.antt.
use Rattle.theory.proofs.stays_so_stands.Goals as goal
use Rattle.theory.proofs.Trajectories.{stays_so}

pub returns : goal.returns
returns c = stays_so
