-- Proved in proofs/Close.antt.
use Rattle.theory.proofs.relaxing_stands.Goals as goal
use Rattle.theory.proofs.Close.{relaxing}

pub returns : goal.returns
returns c = relaxing
