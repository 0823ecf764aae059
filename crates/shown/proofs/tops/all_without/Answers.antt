use Rattle.std.proofs.Common.{length, vec_items, sym, ◌∙◌, rules, tests}
use Rattle.std.proofs.lemmas.Iterator.Search.{all_from_yields_List}
use Rattle.shown.specs.Computed.{lacks_levels}
use Rattle.shown.proofs.Zones.{YieldsList-from_zones, all_without_listed}
use Rattle.shown.proofs.tops.all_without.Goals as goal

pub returns : goal.returns
returns c =
    let o = c.args.observer.now in
    all_from_yields_List lacks_levels _ _ _ c.all.ensures.ran (YieldsList-from_zones o c.zones.ensures.rest c.zones.ensures.size)
    (λ x b q k. search (rules, tests))
    ∙ sym (all_without_listed o.plant.basins (length (vec_items o.sets)) (vec_items o.table))
