use Rattle.std.proofs.Common.{◌≡◌, ◌*◌, List, length, ℤ, None, vec_items, vec_len, sym, refl, ap, ◌∙◌, subst, arith}
use Rattle.std.specs.Vec.{with_items}
use Rattle.std.proofs.lemmas.List.{with_items_is}
use Rattle.faults.specs.declared.set.FaultSet.{FaultSet}
use Rattle.table.specs.Parts.{AllStart, size, table_refused}
use Rattle.table.proofs.Parting.{fitting, clash_some}
use Rattle.table.proofs.Following.{follows_start}
use Rattle.table.proofs.state.Observer.new.Goals as goal

pub returns-in_err-start_table : goal.returns-in_err-start_table
returns-in_err-start_table c =
    let n = c.args.plant.basins in
    let sets = c.in_ok-sets.sets in
    let mul = (rw c.in_ok-length.ensures.ok_part at c.checked_mul.ensures).1 in
    let made = c.in_ok-table.ensures.len in
    let long : length c.deref_mut.result.now ≡ vec_len sets * size n =
    c.deref_mut.ensures.len ∙ omega (arith, made, mul) ∙ ap (λ m. m * c.zone_size.result) c.len.ensures
    ∙ ap (λ z. vec_len sets * z) c.zone_size.ensures in
    let fits : table_refused n (length c.deref.result.now) (length c.deref_mut.result.now) ≡ None =
    fitting n (vec_len sets) _ _ c.deref.ensures.len long in
    let refused = c.in_err-start_table.ensures.0 in
    absurd (clash_some (sym refused ∙ fits))

pub returns : goal.returns
returns c =
    let p = c.args.plant in
    let n = p.basins in
    let rs = vec_items p.ranges in
    let sets = c.in_ok-sets.sets in
    let ys : List ℤ = c.start_table.new.table in
    let table = c.in_ok-table.table in
    let long : length ys ≡ table.len = omega (arith, c.start_table.auto.table, c.deref_mut.ensures.len) in
    let started : AllStart n rs (length (vec_items sets)) (vec_items (with_items table ys)) =
    subst (AllStart n rs (length (vec_items sets))) (sym (with_items_is table ys long))
    (subst (λ (ss : List FaultSet). AllStart n rs (length ss) ys) c.deref.ensures.value
    c.in_ok-start_table.ensures.1) in (
      refl,
      record {
        plant = refl;
        in_play = c.len-in_play.ensures;
        steps = refl;
        tracks = record {
          counted = refl;
          listed = c.in_ok-sets.ensures.listed.1;
          follows = λ k h. follows_start n rs _ _ (started k h);
        };
      },
    )
