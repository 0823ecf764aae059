-- Proved in proofs/Meet.antt.
use Rattle.theory.proofs.meeting_stands.Goals as goal
use Rattle.theory.proofs.Meet.{meeting}

pub returns : goal.returns
returns c = meeting
