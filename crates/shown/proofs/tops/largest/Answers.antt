use Rattle.std.proofs.Common.{not, length, vec_items, sym, ◌∙◌, rules, tests}
use Rattle.std.proofs.lemmas.Iterator.{YieldsList-from_map}
use Rattle.std.proofs.lemmas.Iterator.Consumers.{YieldsList-from_filter, YieldsList-at}
use Rattle.std.specs.Int.{int_max}
use Rattle.shown.specs.Computed.{lacks_levels}
use Rattle.shown.proofs.Zones.{YieldsList-from_zones, number, largest_listed, reduce_by_calls}
use Rattle.shown.proofs.tops.largest.Goals as goal

pub returns : goal.returns
returns c =
    let o = c.args.observer.now in
    let i = c.args.first in
    let j = c.args.second in
    reduce_by_calls _ int_max c.reduce.result c.reduce.ensures.ran
    (YieldsList-from_map _ (number o.plant.basins i j) (YieldsList-at c.map.ensures.source
    (YieldsList-from_filter _ (λ zone. not (lacks_levels zone)) (YieldsList-at c.filter.ensures.source
    (YieldsList-from_zones o c.zones.ensures.rest c.zones.ensures.size))
    c.filter.ensures.closure (λ x r q k. search (rules, tests))))
    c.map.ensures.closure (λ x r q k. search (rules, tests)))
    (λ a x b q k. search rules)
    ∙ sym (largest_listed o.plant.basins i j (length (vec_items o.sets)) (vec_items o.table))
