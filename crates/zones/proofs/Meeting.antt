-- A reading met in lent numbers: two writes and a closing. Assumes nothing.
use Rattle.std.proofs.Common.{◌≡◌, ℕ, ◌≤◌, ◌⊎◌, List, ℤ, pos, neg_ℤ, ◌≤ℤ◌, sym, subst, inl, inr, arith}
use Rattle.std.proofs.lemmas.Int.{ints}
use Rattle.theory.specs.Bound.{at_most}
use Rattle.theory.specs.Level.{difference}
use Rattle.theory.specs.Zone.{In, Canonical}
use Rattle.theory.proofs.Bounds.{difference_is, no_larger_trans}
use Rattle.bounds.proofs.Laws.{sized_more}
use Rattle.zones.specs.declared.kinds.Reading.{Reading}
use Rattle.zones.specs.Numbers.{zone_of, no_levels, AllSized, closing_reach, FarForm, ClosesFar}
use Rattle.zones.specs.Change.{step_reach, Roof, ReadsFar}
use Rattle.zones.proofs.Closing.{no_levels_empty, no_levels_sized, closes_none}
use Rattle.zones.proofs.Writing.{Met}

-- ---- both writes, and the closing
module _ (n : ℕ) (r : Reading) (xs ys zs ws : List ℤ) (low_ok : neg_ℤ (pos 1000000) ≤ℤ r.low) (order : r.low ≤ℤ r.high)
    (high_ok : r.high ≤ℤ pos 1000000) (up : Met n r.first r.second r.high xs ys)
    (down : Met n r.second r.first (neg_ℤ r.low) ys zs) (c : ClosesFar n zs ws) where
  both_sized : (h : ℕ) → 1000000 ≤ h → AllSized h n xs → AllSized h n zs
  both_sized h le s = down.sized h (omega (arith, ints), omega (arith, ints))
      (up.sized h (omega (arith, ints), omega (arith, ints)) s)

  form_by :
      FarForm n zs ws →
      (ws ≡ no_levels n) ⊎ ((AllSized step_reach n xs → Canonical n (zone_of n ws)) × ((h : ℕ) → Roof h n xs → Roof h n ws))
  form_by (inl e) = inl e
  form_by (inr (sm, ca)) = inr (
    λ s. ca (both_sized closing_reach (omega arith) (λ i j hi hj. sized_more step_reach closing_reach (zone_of n xs i j) (omega arith) (s i j hi hj))),
    λ h ro i hi.
        no_larger_trans (zone_of n ws i 0) (zone_of n zs i 0) (at_most (pos h)) (sm i 0 hi (omega arith))
        (no_larger_trans (zone_of n zs i 0) (zone_of n ys i 0) (at_most (pos h)) (down.smaller i 0 hi (omega arith))
        (no_larger_trans (zone_of n ys i 0) (zone_of n xs i 0) (at_most (pos h)) (up.smaller i 0 hi (omega arith)) (ro i hi))),
  )

  pub reads : ReadsFar n r xs ws
  reads = record {
    levels = λ a x.
        let d = difference_is x r.first r.second in let e = difference_is x r.second r.first in (
          λ l k. let m : r.low ≤ℤ difference x r.first r.second = k.0 in
              (c.levels x).0 (down.to x (up.to x l k.1) (omega (arith, ints))),
          λ l. let v = down.from x ((c.levels x).1 l) in let u = up.from x v.0 in
              let m : difference x r.second r.first ≤ℤ neg_ℤ r.low = v.1 in (u.0, (omega (arith, ints), u.1)),
        );
    form = form_by c.form;
    empty = λ e.
        closes_none n zs ws c
        (both_sized closing_reach (omega arith) (subst (AllSized closing_reach n) (sym e) (no_levels_sized n closing_reach (omega arith))))
        (λ x l. no_levels_empty n x (subst (λ vs. In n (zone_of n vs) x) e (up.from x (down.from x l).0).0));
  }
