use Rattle.std.proofs.Common.{set, pos, ap, ◌∙◌, w64, SFits, rules}
use Rattle.std.specs.Int.{int_min}
use Rattle.std.proofs.lemmas.Int.{to_z-of_z}
use Rattle.zones.specs.Numbers.{cell}
use Rattle.zones.proofs.Cells.{place}
use Rattle.zones.proofs.readings.Zone+i64.meet_bound.Goals as goal

pub returns-clause-met : goal.returns-clause-met
unfolding cell
returns-clause-met c =
    let own : SFits w64 c.at-own.result = search rules in let b : SFits w64 c.args.bound = search rules in
    let r : SFits w64 c.sharper.result = search rules in
    let is = simp to_z-of_z at c.sharper.ensures.value in
    let put = simp to_z-of_z at c.put.ensures.written in
    put ∙ ap (set c.args.self.now.numbers.now (place c.args.self.now.basins c.args.i c.args.j))
    (is ∙ ap (λ v. int_min v c.args.bound) (c.at-own.ensures (pos 0)))
