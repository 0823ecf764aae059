-- Proved in proofs/Shown.antt.
use Rattle.theory.proofs.sharpest_stands.Goals as goal
use Rattle.theory.proofs.Shown.{sharpest}

pub returns : goal.returns
returns c = sharpest
