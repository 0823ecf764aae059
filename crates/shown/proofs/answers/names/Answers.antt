use Rattle.std.proofs.Common.{◌≤◌, vec_items, arith}
use Rattle.plant.proofs.Limits.{gauges_few}
use Rattle.shown.proofs.Ending.{names_told}
use Rattle.shown.proofs.answers.names.Goals as goal

pub returns : goal.returns
returns c es t =
    let o = c.args.observer.now in
    let p = o.plant in
    let g = gauges_few p.basins p.wrong (vec_items p.ranges) (vec_items p.rates) (vec_items p.gauges) p.limits in
    let few : o.in_play ≤ 12 = omega (arith, o.known, p.gauges.ok.0, g.1) in
    names_told o es t record { gauges = c.in_each.result; none = c.all_without.result } few c.in_each.ensures c.all_without.ensures
