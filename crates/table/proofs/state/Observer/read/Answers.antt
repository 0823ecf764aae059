use Rattle.std.proofs.Common.{◌≡◌, List, length, ℤ, None, vec_items, vec_len, sym, refl, ◌∙◌, subst, arith}
use Rattle.std.specs.Vec.{with_items}
use Rattle.std.proofs.lemmas.List.{with_items_is}
use Rattle.faults.specs.declared.set.FaultSet.{FaultSet}
use Rattle.plant.specs.declared.kinds.Event.TheVariants as event
use Rattle.plant.specs.Resolve.{placed_reading}
use Rattle.plant.specs.Events.{reading_refused}
use Rattle.table.specs.Parts.{AllRead, table_refused}
use Rattle.refusal.proofs.Orders.{neither}
use Rattle.table.proofs.Parting.{fitting, unrefused}
use Rattle.table.proofs.Tracking.{read_followed, more_counted}
use Rattle.table.proofs.state.Observer.read.Goals as goal

pub returns : goal.returns
returns c =
    let o = c.args.self.now in
    let p = o.plant in
    let r = c.args.reading in
    let ys : List ℤ = c.read_table.new.table in
    let long : length ys ≡ o.table.len = omega (arith, c.read_table.auto.table, c.deref_mut.ensures.len) in
    let ts : List ℤ = vec_items (with_items o.table ys) in
    let taken : reading_refused (vec_len p.gauges) r ≡ None =
    subst (λ g. reading_refused g r ≡ None) o.known c.in_ok-check_reading.ensures in
    let fits : table_refused p.basins (length c.deref.result.now) (length c.deref_mut.result.now) ≡ None =
    fitting p.basins (vec_len o.sets) _ _ c.deref.ensures.len (c.deref_mut.ensures.len ∙ o.whole) in
    unrefused c.read_table.result _ _ _ _ _ _ (neither _ _ fits taken) c.in_ok-check_reading.ensures
    (λ _ all.
    let heeded : AllRead p.basins (placed_reading (vec_items p.gauges) r) r.gauge (vec_items o.sets) (vec_items o.table) ts =
    subst (AllRead p.basins (placed_reading (vec_items p.gauges) r) r.gauge (vec_items o.sets) (vec_items o.table))
    (sym (with_items_is o.table ys long))
    (subst (λ xs. AllRead p.basins (placed_reading (vec_items p.gauges) r) r.gauge (vec_items o.sets) xs ys) c.deref_mut.ensures.value
    (subst (λ (ss : List FaultSet). AllRead p.basins (placed_reading (vec_items p.gauges) r) r.gauge ss c.deref_mut.result.now ys)
    c.deref.ensures.value all)) in
    record {
      plant = refl;
      in_play = refl;
      steps = omega arith;
      tracks = λ es t. record {
        counted = (let m = more_counted o es t ts (event.Reading r) in omega arith);
        listed = t.listed;
        follows = read_followed o es t ts r heeded;
      };
    })
    c.read_table.ensures
