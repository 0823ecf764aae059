-- Proved in proofs/Shown.antt.
use Rattle.theory.proofs.naming_stands.Goals as goal
use Rattle.theory.proofs.Shown.{naming}

pub returns : goal.returns
returns c = naming
