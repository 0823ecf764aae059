use Rattle.std.proofs.Common.{not, vec_items, rules, tests}
use Rattle.std.specs.List.{filter, zip}
use Rattle.std.proofs.lemmas.Iterator.{YieldsList-from_slice, YieldsList-from_zip}
use Rattle.std.proofs.lemmas.Iterator.Consumers.{YieldsList-from_filter, YieldsList-at}
use Rattle.shown.specs.Computed.{lacks_levels}
use Rattle.shown.proofs.Zones.{Pair, Met, zones_of, YieldsList-from_zones, met_from_yields_List, met_all}
use Rattle.shown.proofs.tops.in_each.Goals as goal

pub returns : goal.returns
returns c =
    let o = c.args.observer.now in
    let pairs = YieldsList-from_zip (YieldsList-at c.zip.ensures.first (YieldsList-from_slice (vec_items o.sets) cc))
    (YieldsList-at c.zip.ensures.second (YieldsList-from_zones o c.zones.ensures.rest c.zones.ensures.size)) in
    let with_levels : Met o.in_play (filter (λ (p : Pair). not (lacks_levels p.1)) (zip (vec_items o.sets) (zones_of o))) c.fold.result =
    met_from_yields_List _ o.in_play c.all.result c.fold.result c.fold.ensures.ran
    (YieldsList-from_filter _ (λ (p : Pair). not (lacks_levels p.1)) (YieldsList-at c.filter.ensures.source pairs)
    c.filter.ensures.closure (λ x r q k. search (rules, tests)))
    (λ r x s q k. search rules) c.all.ensures in
    met_all o c.fold.result with_levels
