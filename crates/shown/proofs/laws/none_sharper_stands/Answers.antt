-- Proved in proofs/Ordering.antt.
use Rattle.shown.proofs.laws.none_sharper_stands.Goals as goal
use Rattle.shown.proofs.Ordering.{none_sharper}

pub returns : goal.returns
returns c = none_sharper
