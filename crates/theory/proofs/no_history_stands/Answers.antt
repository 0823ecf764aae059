-- Proved in proofs/Shown.antt.
use Rattle.theory.proofs.no_history_stands.Goals as goal
use Rattle.theory.proofs.Shown.{no_history_told}

pub returns : goal.returns
returns c = no_history_told
