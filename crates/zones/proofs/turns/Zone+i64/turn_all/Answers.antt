-- The loops do what Turning says of each place, row and turn.
use Rattle.std.proofs.Common.{◌≡◌, ◌+◌, ◌*◌, true, false, length, get_or, set, pos, sym, refl, ap, ◌∙◌, subst, arith, w64, SFits, to_z, of_z, rules}
use lib.Signed.{lt_z}
use Rattle.std.proofs.lemmas.Int.{ints, to_z-of_z}
use Rattle.bounds.specs.Meaning.{total_sum}
use Rattle.zones.specs.Numbers.{cell, zone_of}
use Rattle.zones.proofs.Cells.{place, place_within, cell_same}
use Rattle.zones.proofs.Turning.{Turned, Begun, begun_more, begun_empty, begun_all, turned_more}
use Rattle.zones.proofs.Turning.{row_write, row_skip, row_done, diagonal_write, zero_is}
use Rattle.zones.proofs.Near.{turns_near}
use Rattle.zones.proofs.turns.Zone+i64.turn_all.Goals as goal
use Rattle.zones.proofs.turns.Zone+i64.turn_all.Goals.{After-is_sharper, then-is_sharper+else-i-j, else-is_sharper}

pub slice_copy_out-from_k : goal.slice_copy_out-from_k
slice_copy_out-from_k c = let p = place_within c.args.self.now.basins c.loop-k.k c.loop-j.j (omega arith)
    (omega arith) in omega arith

-- the sum that was computed, and the test
sum_is : (c : After-is_sharper) → to_z w64 (of_z w64 c.sum-through.result) ≡ total_sum
    (cell c.args.self.now.basins c.loop-i.zone c.loop-i.i c.loop-k.k)
    (cell c.args.self.now.basins c.loop-j.zone c.loop-k.k c.loop-j.j)
unfolding cell
sum_is c =
    let w = c.args.self.now.basins + 1 in
    let f : SFits w64 (get_or c.loop-i.zone (c.loop-i.i * w + c.loop-k.k) (pos 0)) = search rules in
    let g : SFits w64 (get_or c.loop-j.zone (c.loop-k.k * w + c.loop-j.j) (pos 0)) = search rules in
    let r : SFits w64 c.sum-through.result = search rules in
    to_z-of_z w64 _ r ∙ simp to_z-of_z at c.sum-through.ensures.value

test_is : (c : After-is_sharper) → c.is_sharper.result ≡ lt_z (to_z w64 (of_z w64 c.sum-through.result))
    (cell c.args.self.now.basins c.loop-j.zone c.loop-i.i c.loop-j.j)
unfolding cell
test_is c =
    let g : SFits w64 (get_or c.loop-j.zone (c.loop-i.i * (c.args.self.now.basins + 1) + c.loop-j.j) (pos 0)) = search rules in
    c.is_sharper.ensures.value ∙ ap (lt_z (to_z w64 (of_z w64 c.sum-through.result))) (to_z-of_z w64 _ g)

-- one place more
write : (c : After-is_sharper) → c.is_sharper.result ≡ true →
    Turned c.args.self.now.basins c.loop-k.k (place c.args.self.now.basins c.loop-i.i 0)
    (place c.args.self.now.basins c.loop-i.i (c.loop-j.j + 1)) (zone_of c.args.self.now.basins c.loop-i.zone)
    (zone_of c.args.self.now.basins (set c.loop-j.zone (place c.args.self.now.basins c.loop-i.i c.loop-j.j)
    (to_z w64 (of_z w64 c.sum-through.result))))
write c e =
    let n = c.args.self.now.basins in
    row_write n c.loop-k.k c.loop-i.i c.loop-j.j c.loop-i.zone c.loop-j.zone (omega arith)
    (omega arith) (omega arith) (omega arith) (c.loop-i.invariant.1 c.loop-k.k (omega arith)) c.loop-j.invariant.0 _
    (sum_is c) (sym (test_is c) ∙ e)

skip : (c : After-is_sharper) → c.is_sharper.result ≡ false →
    Turned c.args.self.now.basins c.loop-k.k (place c.args.self.now.basins c.loop-i.i 0)
    (place c.args.self.now.basins c.loop-i.i (c.loop-j.j + 1)) (zone_of c.args.self.now.basins c.loop-i.zone)
    (zone_of c.args.self.now.basins c.loop-j.zone)
skip c e =
    let n = c.args.self.now.basins in
    row_skip n c.loop-k.k c.loop-i.i c.loop-j.j c.loop-i.zone c.loop-j.zone (omega arith) (omega arith)
    (omega arith) (omega arith) (c.loop-i.invariant.1 c.loop-k.k (omega arith)) c.loop-j.invariant.0 _ (sum_is c)
    (sym (test_is c) ∙ e)

pub loop-j-preserved : goal.loop-j-preserved
loop-j-preserved c =
    let n = c.args.self.now.basins in let a = (goal.at.loop-j-preserved c).After-is_sharper in
    elim c.if-is_sharper.branch [
      | then-is_sharper+else-i-j w ↦ rw w.zone-is (
        write a w.if-is_sharper.true,
        diagonal_write n c.loop-i.i
            c.loop-j.j c.loop-j.zone _ (omega arith) w.if-i-j.false c.loop-j.invariant.1,
      )
      | else-is_sharper w ↦ rw w.zone-is (skip a w.if-is_sharper.false, c.loop-j.invariant.1)
    ]

pub loop-i-preserved : goal.loop-i-preserved
loop-i-preserved c =
    let o = c.loop-k.invariant.itself c.loop-k.k (omega arith) in (
      row_done c.args.self.now.basins c.loop-k.k c.loop-i.i c.loop-j.j _ _ _ (omega arith) (omega arith) (zero_is o)
          c.loop-i.invariant.0 c.loop-j.invariant.0,
      c.loop-j.invariant.1,
    )

pub loop-k-preserved : goal.loop-k-preserved
loop-k-preserved c =
    let n = c.args.self.now.basins in let z = zone_of n c.loop-k.zone in let y = zone_of n c.loop-i.zone in
    let e : c.loop-i.i ≡ n + 1 = omega arith in
    begun_more n c.loop-k.k c.args.self.now.numbers.now c.loop-k.zone c.loop-i.zone c.loop-k.invariant
    c.args.self.now.few (omega arith) (subst (λ i. Turned n c.loop-k.k 0 (place n i 0) z y) e c.loop-i.invariant.0)
    c.loop-i.invariant.1

pub returns-after-loop-k : goal.returns-after-loop-k
returns-after-loop-k c =
    let n = c.args.self.now.basins in let xs = c.args.self.now.numbers.now in
    let e : c.loop-k.k ≡ n + 1 = omega arith in
    let far = begun_all n xs c.loop-k.zone c.args.self.now.few
    (subst (λ k. Begun n k xs c.loop-k.zone) e c.loop-k.invariant) in
    record { lent = (refl, refl); turned = turns_near n xs true c.loop-k.zone far; far = far }

pub returns-then-i-j : goal.returns-then-i-j
returns-then-i-j c =
    let n = c.args.self.now.basins in let k = c.loop-k.k in let i = c.loop-i.i in let j = c.loop-j.j in
    let ys = c.loop-j.zone in
    let v = to_z w64 (of_z w64 c.sum-through.result) in
    let a = (goal.at.returns-then-i-j c).After-is_sharper in
    let o = c.loop-k.invariant.itself k (omega arith) in
    let t = turned_more n k 0 (place n i 0) (place n i (j + 1)) _ _ _ (omega arith) (omega arith) (omega arith)
    (zero_is o) c.loop-i.invariant.0 (write a c.if-is_sharper.true) in
    let same : i ≡ j = c.if-i-j.true in
    let long : length ys ≡ (n + 1) * (n + 1) = omega arith in
    let is : cell n (set ys (place n i j) v) i i ≡ v = subst (λ m. cell n (set ys (place n i j) v) i m ≡ v) (sym same)
    (cell_same n ys i j v (omega arith) (omega arith) long) in
    let less : lt_z v (cell n ys i j) ≡ true = sym (test_is a) ∙ c.if-is_sharper.true in
    let own : cell n ys i j ≡ pos 0 = subst (λ m. cell n ys i m ≡ pos 0) same (c.loop-j.invariant.1 i (omega arith)) in
    let far = begun_empty n k c.args.self.now.numbers.now c.loop-k.zone _ c.loop-k.invariant c.args.self.now.few (omega arith)
    (place n i (j + 1)) i t (omega arith) (omega (arith, ints)) in
    record { lent = (refl, refl); turned = turns_near n c.args.self.now.numbers.now false _ far; far = far }
