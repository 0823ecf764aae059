use Rattle.std.proofs.Common.{◌+◌, ◌*◌, ◌≤◌, slice_index_or, arith, rules}
use Rattle.std.proofs.lemmas.List.{get_or_default}
use Rattle.zones.proofs.Cells.{place, place_within}
use Rattle.zones.proofs.lent.Zone+u64.grow.Goals as goal

pub map-requires : goal.map-requires
map-requires c = λ i j hi hj d.
    let n = c.args.self.now.basins in let xs = c.args.self.now.numbers.now in
    let p = place_within n i j hi hj in let e = get_or_default xs (place n i j) d 0 (omega arith) in
    let q = c.requires.numbers (place n i j) in
    let small : slice_index_or xs (i * (n + 1) + j) d ≤ 2000002 = omega arith in search rules

pub returns-clause-grown : goal.returns-clause-grown
returns-clause-grown c = λ i j hi hj. let k = c.map.ensures.each i j hi hj 0 in search rules
