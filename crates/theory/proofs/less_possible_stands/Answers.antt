-- Proved in proofs/Trajectories.antt.
use Rattle.theory.proofs.less_possible_stands.Goals as goal
use Rattle.theory.proofs.Trajectories.{less_possible}

pub returns : goal.returns
returns c = less_possible
