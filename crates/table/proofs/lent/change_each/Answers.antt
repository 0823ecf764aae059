use Rattle.std.proofs.Common.{◌≡◌, ◌+◌, ◌*◌, ◌≤◌, length, get_or, Err, ◌∙◌, refl, arith, rules}
use Rattle.table.specs.Parts.{size}
use Rattle.table.proofs.Parting.{going_lent, lent_length, part_within}
use Rattle.table.proofs.lent.change_each.Goals as goal

pub loop-place-preserved : goal.loop-place-preserved
loop-place-preserved g c =
    let n = c.args.plant.now.basins in
    let k = c.loop-place.place in
    let ys = c.loop-place.table in
    let there : (k + 1) * size n ≤ length ys = part_within n k (length c.args.sets.now) _ c.loop-place-test.true (omega arith) in
    going_lent n _ k _ _ ys _ c.zone_size-size.ensures there (c.change.auto.arg3 ∙ lent_length n _ k ys c.zone_size-size.ensures there)
    c.loop-place.invariant (record { lent = _; found = refl; after = _; left = refl; called = c.in_ok-change.ensures })

pub returns-in_err-change : goal.returns-in_err-change
returns-in_err-change g c =
    let n = c.args.plant.now.basins in
    let k = c.loop-place.place in
    let ys = c.loop-place.table in
    let there : (k + 1) * size n ≤ length ys = part_within n k (length c.args.sets.now) _ c.loop-place-test.true (omega arith) in
    let is : c.from_residual.result ≡ Err c.in_err-change.field-0.0 = search rules in
    rw is (record {
      set = get_or c.args.sets.now k (record { bits = 0 });
      numbers = _;
      long = lent_length n _ k ys c.zone_size-size.ensures there ∙ c.zone_size-size.ensures;
      left = c.change.new.arg3;
      refused = record { lent = _; found = refl; after = _; left = refl; called = c.in_err-change.ensures };
    })
