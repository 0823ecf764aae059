use Rattle.std.proofs.Common.{subst, w64}
use Rattle.std.proofs.lemmas.Int.{to_z-of_z}
use Rattle.draft.proofs.numbers.clamp.Goals as goal

pub returns : goal.returns
returns g c =
    let here = to_z-of_z w64 c.args.number c.ranges.number in
    (c.try_from.result, subst (λ n. g.T.TryFrom.try_from_gives n c.try_from.result) here c.try_from.ensures, c.unwrap_or.ensures)
