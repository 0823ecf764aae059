-- Proved in proofs/Ordering.antt.
use Rattle.shown.proofs.laws.reading_only_sharpens_stands.Goals as goal
use Rattle.shown.proofs.Ordering.{reading_only_sharpens}

pub returns : goal.returns
returns c = reading_only_sharpens
