-- The closing as a whole: numbers that are settled and turned, or that stand for no levels. Assumes nothing.
use Rattle.std.proofs.Common.{◌≡◌, ℕ, ◌+◌, ◌*◌, ◌^◌, ◌≤◌, Bool, true, false, List, ℤ, pos, negsuc, sym, refl, ap, ◌∙◌, subst, inl, inr, arith, pow_pos}
use lib.Signed.{lt_z}
use Rattle.std.proofs.lemmas.List.{get_or-replicate}
use Rattle.std.proofs.lemmas.Int.{ints}
use Rattle.theory.specs.Bound.{Holds, zero_bound}
use Rattle.theory.specs.Zone.{In, Empty}
use Rattle.theory.proofs.Bounds.{difference_same, no_larger_trans}
use Rattle.theory.proofs.Reach.{some_levels}
use Rattle.bounds.specs.Meaning.{bound_of, Sized}
use Rattle.zones.specs.Numbers.{cell, zone_of, no_levels, AllSized, closing_reach, Settles, TurnsFar}
use Rattle.zones.specs.Numbers.{FarForm, ClosesFar, TellsEmpty}
use Rattle.zones.proofs.Cells.{place_within}
use Rattle.zones.proofs.Turning.{below_itself}
use Rattle.zones.proofs.Writing.{bound_is}

-- each number of the numbers that stand for no levels is below itself
pub no_levels_cell : (n i j : ℕ) → i ≤ n → j ≤ n → cell n (no_levels n) i j ≡ negsuc 0
unfolding cell
no_levels_cell n i j hi hj = get_or-replicate ((n + 1) * (n + 1)) _ (negsuc 0) (pos 0) (place_within n i j hi hj)

pub no_levels_empty : (n : ℕ) → Empty n (zone_of n (no_levels n))
no_levels_empty n x p =
    let e = no_levels_cell n 0 0 (omega arith) (omega arith) in
    below_itself (cell n (no_levels n) 0 0) (omega (arith, ints))
    (subst (Holds (zone_of n (no_levels n) 0 0)) (difference_same x 0) (p.holds 0 0 (omega arith) (omega arith)))

pub no_levels_sized : (n h : ℕ) → 1 ≤ h → AllSized h n (no_levels n)
no_levels_sized n h le i j hi hj =
    subst (Sized h) (sym (ap bound_of (no_levels_cell n i j hi hj)
    ∙ bound_is _ (omega (arith, ints)))) (omega (arith, ints), omega (arith, ints))

not_below : (v : ℤ) → bound_of v ≡ zero_bound → lt_z v (pos 0) ≡ false
unfolding bound_of
not_below v e = grind (arith, ints)

pub closes_empty : (n : ℕ) (xs ys : List ℤ) → Empty n (zone_of n xs) → ys ≡ no_levels n → ClosesFar n xs ys
closes_empty n xs ys none_in e = record {
  levels = λ x. (λ p. absurd (none_in x p), λ p. absurd (no_levels_empty n x (subst (λ zs. In n (zone_of n zs) x) e p)));
  form = inl e;
  sized = λ k _ _. subst (AllSized (2 ^ (k + 9)) n) (sym e) (no_levels_sized n (2 ^ (k + 9)) (pow_pos (k + 9)));
}

pub closes_turned : (n : ℕ) (xs ys zs : List ℤ) → Settles n xs true ys → TurnsFar n ys true zs → ClosesFar n xs zs
closes_turned n xs ys zs s t = record {
  levels = λ x. let u = s.levels x in let v = t.levels x in (λ p. v.0 (u.0 p), λ p. u.1 (v.1 p));
  form = inr (
    λ i j hi hj. no_larger_trans (zone_of n zs i j) (zone_of n ys i j) (zone_of n xs i j) (t.smaller i j hi hj)
        (s.smaller i j hi hj),
    λ sized. record {
      closed = t.closed refl (s.sized closing_reach sized);
      floored = λ i hi. no_larger_trans (zone_of n zs 0 i) (zone_of n ys 0 i) zero_bound (t.smaller 0 i (omega arith) hi)
          (s.floored refl i hi);
    },
  );
  sized = λ e he sized. t.sized refl e he (s.sized (2 ^ e) sized);
}

-- what a closing leaves of numbers without levels
pub closes_none : (n : ℕ) (xs ys : List ℤ) → ClosesFar n xs ys → AllSized closing_reach n xs → Empty n (zone_of n xs) → ys ≡ no_levels n
closes_none n xs ys c s none_in = go c.form
  where
    go : FarForm n xs ys → ys ≡ no_levels n
    go (inl e) = e
    go (inr (sm, ca)) = let l = some_levels n (zone_of n ys) (ca s) in absurd (none_in l.0 ((c.levels l.0).1 l.1))

-- the datum's own number tells whether a zone that is kept has levels
pub tells_empty : (n : ℕ) (xs : List ℤ) (r : Bool) → r ≡ lt_z (cell n xs 0 0) (pos 0) → TellsEmpty n xs r
tells_empty n xs r e = record {
  test = e;
  empty = λ t x p. let below : lt_z (cell n xs 0 0) (pos 0) ≡ true = sym e ∙ t in
      below_itself (cell n xs 0 0) (omega (arith, ints)) (subst (Holds (zone_of n xs 0 0)) (difference_same x 0)
      (p.holds 0 0 (omega arith) (omega arith)));
  kept = λ ca. e ∙ not_below (cell n xs 0 0) (ca.closed.itself 0 (omega arith));
  none = λ is. e ∙ ap (λ v. lt_z v (pos 0)) (subst (λ vs. cell n vs 0 0 ≡ negsuc 0) (sym is)
      (no_levels_cell n 0 0 (omega arith) (omega arith)));
}
