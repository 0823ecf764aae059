-- Proved in proofs/Track.antt.
use Rattle.theory.proofs.always_kept_stands.Goals as goal
use Rattle.theory.proofs.Track.{always_kept}

pub returns : goal.returns
returns c = always_kept
