use Rattle.std.proofs.Common.{get_or, pos, ap, ◌∙◌, arith, w64, SFits, rules}
use lib.Signed.{lt_z}
use Rattle.std.proofs.lemmas.Int.{to_z-of_z}
use Rattle.zones.specs.Numbers.{cell}
use Rattle.zones.proofs.Closing.{tells_empty}
use Rattle.zones.proofs.whole.is_empty.Goals as goal

pub returns : goal.returns
unfolding cell
returns c =
    let own : SFits w64 (get_or c.args.zone.now 0 (pos 0)) = search rules in (
      c.in_ok-check_size.ensures.found,
      tells_empty c.args.basins c.args.zone.now _
          (ap (λ v. lt_z v (pos 0)) (to_z-of_z w64 _ own ∙ ap (λ p. get_or c.args.zone.now p (pos 0)) (omega arith))),
    )
