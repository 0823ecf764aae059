-- The words in which a refusal is told. Assumes nothing: these are definitions.
use Rattle.std.specs.Prelude.{ℕ, List, ◌++◌, codes, decimal}
use Rattle.refusal.specs.declared.kinds.Refusal.{Refusal}
use Rattle.refusal.specs.declared.failure.Failure.{Failure}
use Rattle.refusal.specs.declared.failure.Failure.TheVariants.{Refused, NoMemory}
use Rattle.refusal.specs.Number.{number_of, place_of}

abbrev pub written_refusal : Refusal → List ℕ
written_refusal e = codes "refused " ++ (decimal (number_of e) ++ (codes " " ++ decimal (place_of e)))

abbrev pub written_failure : Failure → List ℕ
written_failure (Refused e) = written_refusal e
written_failure NoMemory = codes "no memory"
