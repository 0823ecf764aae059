use Rattle.std.proofs.Common.{[], subst, ◌∙◌, append-nil, arith, length-set}
use Rattle.std.proofs.lemmas.List.{take_all}
use Rattle.text.specs.Reader.{Holds}
use Rattle.text.specs.declared.error.Field.TheVariants.{Basins}
use Rattle.text.proofs.Steps.{read_next}
use Rattle.text.proofs.words.Words.numbers.Goals as goal

pub loop-i-preserved : goal.loop-i-preserved
loop-i-preserved g c = (
  simp length-set c.loop-i.invariant.0,
  read_next _ _ _ c.loop-i.numbers c.args.fields c.loop-i.i Basins _ (omega arith) (omega arith) c.loop-i.invariant.1
      c.in_ok-numbers.ensures,
)

pub returns : goal.returns
returns g c =
    subst (Holds c.args.self) (append-nil _ ∙ take_all _ _ (omega arith)) (c.loop-i.invariant.1.holds [] c.in_ok-end.ensures)
