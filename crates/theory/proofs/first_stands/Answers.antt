-- Proved in proofs/Meet.antt.
use Rattle.theory.proofs.first_stands.Goals as goal
use Rattle.theory.proofs.Meet.{first}

pub returns : goal.returns
returns c = first
