-- Proved in proofs/Trajectories.antt.
use Rattle.theory.proofs.order_free_stands.Goals as goal
use Rattle.theory.proofs.Trajectories.{order_free}

pub returns : goal.returns
returns c = order_free
