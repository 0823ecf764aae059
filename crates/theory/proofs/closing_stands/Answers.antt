-- Proved in proofs/Close.antt.
use Rattle.theory.proofs.closing_stands.Goals as goal
use Rattle.theory.proofs.Close.{closing}

pub returns : goal.returns
returns c = closing
