-- The smaller number is the sharper bound. Assumes nothing.
use Rattle.std.proofs.Common.{arith}
use Rattle.std.proofs.lemmas.Int.{ints}
use Rattle.bounds.specs.Meaning.{bound_of}
use Rattle.bounds.proofs.sharper.Goals as goal

pub returns : goal.returns
unfolding bound_of
returns c = grind (arith, ints)
