-- Proved in proofs/Meet.antt.
use Rattle.theory.proofs.meeting_reading_stands.Goals as goal
use Rattle.theory.proofs.Meet.{meeting_reading}

pub returns : goal.returns
returns c = meeting_reading
