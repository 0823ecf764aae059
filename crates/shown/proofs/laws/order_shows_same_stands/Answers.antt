-- Proved in proofs/Ordering.antt.
use Rattle.shown.proofs.laws.order_shows_same_stands.Goals as goal
use Rattle.shown.proofs.Ordering.{order_shows_same}

pub returns : goal.returns
returns c = order_shows_same
