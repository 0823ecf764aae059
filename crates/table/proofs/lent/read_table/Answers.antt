use Rattle.std.proofs.Common.{◌≡◌, ◌<◌, List, length, None, vec_items, vec_len, sym, ap, ◌∙◌, subst, arith, rules, MatchResult}
use Rattle.refusal.proofs.Orders.{neither, never_errs}
use Rattle.zones.specs.declared.kinds.Reading.{Reading}
use Rattle.zones.specs.Checks as zone
use Rattle.plant.specs.declared.kinds.Gauge.{Gauge}
use Rattle.plant.specs.Events.{reading_refused}
use Rattle.plant.specs.Resolve.{placed_reading}
use Rattle.plant.proofs.Limits.{basins_within, gauge_placed}
use Rattle.table.specs.Parts.{AllRead}
use Rattle.table.proofs.Parting.{all_heed}
use Rattle.table.proofs.Placing.{gauge_there, placed_taken}
use Rattle.table.proofs.lent.read_table.Goals as goal

pub returns : goal.returns
returns c =
    let p = c.args.plant.now in
    let n = p.basins in
    let gs : List Gauge = vec_items p.gauges in
    let r = c.args.reading in
    let sets = c.args.sets.now in
    let xs = c.args.table.now in
    let ys = c.change_each.new.table in
    let basins = basins_within n p.wrong (vec_items p.ranges) (vec_items p.rates) gs p.limits in
    let long : length gs ≡ vec_len p.gauges = ap length (sym c.deref.ensures.value) ∙ c.deref.ensures.len in
    let taken : reading_refused (vec_len p.gauges) r ≡ None = search rules in
    let there : r.gauge < length gs = let t = gauge_there (vec_len p.gauges) r taken in omega arith in
    let at = gauge_placed n p.wrong (vec_items p.ranges) (vec_items p.rates) gs p.limits r.gauge there in
    let placed : c.place-placed.result ≡ placed_reading gs r = c.place-placed.ensures ∙ ap (λ v. placed_reading v r) c.deref.ensures.value in
    let checked : zone.reading_refused n c.place-placed.result ≡ None =
    subst (λ v. zone.reading_refused n v ≡ None) (sym placed) (placed_taken n (vec_len p.gauges) gs r taken at.0 at.1 at.3) in
    never_errs c.change_each.result _ (λ _. AllRead n (placed_reading gs r) r.gauge sets xs ys) _
    (neither _ _ c.in_ok-check_table.ensures taken)
    (subst (λ (v : Reading). MatchResult c.change_each.result (λ _. AllRead n v r.gauge sets xs ys) (λ _. ⊥)) placed
    (all_heed n c.place-placed.result r.gauge _ sets xs ys (λ s v o w k. search rules) basins.0 basins.1 checked
    c.change_each.result c.change_each.ensures))
