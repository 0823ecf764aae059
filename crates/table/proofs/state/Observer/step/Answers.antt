use Rattle.std.proofs.Common.{◌≡◌, List, length, ℤ, vec_items, sym, refl, subst, arith}
use Rattle.std.specs.Vec.{with_items}
use Rattle.std.proofs.lemmas.List.{with_items_is}
use Rattle.faults.specs.declared.set.FaultSet.{FaultSet}
use Rattle.plant.specs.declared.kinds.Event.TheVariants as event
use Rattle.table.specs.Parts.{AllStep}
use Rattle.table.proofs.Tracking.{step_followed, more_counted}
use Rattle.table.proofs.state.Observer.step.Goals as goal

pub returns : goal.returns
returns c =
    let o = c.args.self.now in
    let p = o.plant in
    let ys : List ℤ = c.step_table.new.table in
    let long : length ys ≡ o.table.len = omega (arith, c.step_table.auto.table, c.deref_mut.ensures.len) in
    let ts : List ℤ = vec_items (with_items o.table ys) in
    let stepped : AllStep p.basins (vec_items p.rates) (length (vec_items o.sets)) (vec_items o.table) ts =
    subst (AllStep p.basins (vec_items p.rates) (length (vec_items o.sets)) (vec_items o.table))
    (sym (with_items_is o.table ys long))
    (subst (λ xs. AllStep p.basins (vec_items p.rates) (length (vec_items o.sets)) xs ys) c.deref_mut.ensures.value
    (subst (λ (ss : List FaultSet). AllStep p.basins (vec_items p.rates) (length ss) c.deref_mut.result.now ys)
    c.deref.ensures.value c.in_ok-step_table.ensures.1)) in (
      c.in_ok-check_step.ensures,
      record {
        plant = refl;
        in_play = refl;
        steps = refl;
        tracks = λ es t. record {
          counted = more_counted o es t ts event.Step;
          listed = t.listed;
          follows = step_followed o es t ts stepped;
        };
      },
    )
