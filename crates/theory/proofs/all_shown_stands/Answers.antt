-- Proved in proofs/Shown.antt.
use Rattle.theory.proofs.all_shown_stands.Goals as goal
use Rattle.theory.proofs.Shown.{all_shown}

pub returns : goal.returns
returns c = all_shown
