-- Proved in proofs/Example.antt.
use Rattle.theory.proofs.worked_example_stands.Goals as goal
use Rattle.theory.proofs.Example.{worked_example}

pub returns : goal.returns
returns c = worked_example
