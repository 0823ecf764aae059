-- Bounds that every zone of levels has: no number is above itself, no level below the datum. Assumes nothing.
use Rattle.std.proofs.Common.{◌≡◌, ℕ, ◌+◌, ◌*◌, ◌<◌, ◌≤◌, true, false, ◌≢◌, List, length, set, ℤ, pos, ◌≤ℤ◌, ◌<ℤ◌, sym, refl, ap, ◌∙◌, subst, ⊎_elim, arith, length-set}
use Rattle.std.specs.Int.{int_min}
use Rattle.std.proofs.lemmas.Int.{ints, clamps}
use Rattle.std.proofs.lemmas.Bool.{cases_eq, cases_lt, true≢false, false≢true}
use Rattle.theory.specs.Bound.{Holds, NoLarger, zero_bound}
use Rattle.theory.specs.Level.{Levels, difference}
use Rattle.theory.specs.Zone.{SameLevels}
use Rattle.theory.proofs.Bounds.{difference_is, difference_same, no_larger_trans}
use Rattle.bounds.specs.Meaning.{bound_of}
use Rattle.bounds.proofs.Laws.{le_no_larger}
use Rattle.zones.specs.Numbers.{cell, zone_of, AllSized, Settles}
use Rattle.zones.proofs.Cells.{place, same_row, same_column, cell_same, cell_other}
use Rattle.zones.proofs.Turning.{zero_is, below_itself}
use Rattle.zones.proofs.Writing.{Met, met}

below_zero : (v : ℤ) → v ≤ℤ pos 0 → NoLarger (bound_of v) zero_bound
below_zero v h = subst (NoLarger (bound_of v)) (zero_is refl) (le_no_larger v (pos 0) h)

-- ---- a bound that holds of all levels
pub record KeptLevels (n : ℕ) (xs ys : List ℤ) : Type 0 where
  pub levels : SameLevels n (zone_of n xs) (zone_of n ys)
  pub smaller : (i j : ℕ) → i ≤ n → j ≤ n → NoLarger (zone_of n ys i j) (zone_of n xs i j)
  pub sized : (h : ℕ) → AllSized h n xs → AllSized h n ys

pub kept_trans : (n : ℕ) (xs ys zs : List ℤ) → KeptLevels n xs ys → KeptLevels n ys zs → KeptLevels n xs zs
kept_trans n xs ys zs a b = record {
  levels = λ x. let u = a.levels x in let v = b.levels x in (λ p. v.0 (u.0 p), λ p. u.1 (v.1 p));
  smaller = λ i j hi hj. no_larger_trans (zone_of n zs i j) (zone_of n ys i j) (zone_of n xs i j) (b.smaller i j hi hj)
      (a.smaller i j hi hj);
  sized = λ h s. b.sized h (a.sized h s);
}

zero_write : (n : ℕ) (xs ys : List ℤ) (p q : ℕ) → p ≤ n → q ≤ n → length xs ≡ (n + 1) * (n + 1) →
    ys ≡ set xs (place n p q) (int_min (cell n xs p q) (pos 0)) → ((x : Levels) → x 0 ≡ 0 → difference x p q ≤ℤ pos 0) →
    KeptLevels n xs ys
zero_write n xs ys p q hp hq long is known =
    let m : Met n p q (pos 0) xs ys =
    subst (Met n p q (pos 0) xs) (sym is) (met n xs p q (pos 0) hp hq long (omega (arith, ints))) in
    record {
      levels = λ x. (λ l. m.to x l (known x l.datum), λ l. (m.from x l).0);
      smaller = m.smaller;
      sized = λ h s. m.sized h (omega (arith, ints), omega (arith, ints)) s;
    }

-- ---- the numbers below j are settled
pub record Settled (n j : ℕ) (xs ys : List ℤ) : Type 0 where
  pub kept : KeptLevels n xs ys
  pub itself : (i : ℕ) → i < j → i ≤ n → cell n ys i i ≡ pos 0
  pub floored : (i : ℕ) → i < j → i ≤ n → cell n ys 0 i ≤ℤ pos 0

module _ (n j : ℕ) (xs ys ws : List ℤ) (hj : j ≤ n) (long : length ys ≡ (n + 1) * (n + 1))
    (is : ws ≡ set ys (place n 0 j) (int_min (cell n ys 0 j) (pos 0))) (s : Settled n j xs ys) where
  floor_kept : KeptLevels n xs ws
  floor_kept = kept_trans n xs ys ws s.kept
      (zero_write n ys ws 0 j (omega arith) hj long is (λ x o. let d = difference_is x 0 j in omega (arith, ints)))

  -- a number below itself
  pub settled_empty : cell n ws j j <ℤ pos 0 → Settles n xs false ws
  settled_empty neg = record {
    levels = floor_kept.levels;
    smaller = floor_kept.smaller;
    itself = λ e. absurd (false≢true e);
    floored = λ e. absurd (false≢true e);
    sized = floor_kept.sized;
    empty = λ _ x p. below_itself _ neg (subst (Holds (zone_of n ws j j)) (difference_same x j)
        (((floor_kept.levels x).0 p).holds j j hj hj));
  }

  -- one number more
  module _ (zs : List ℤ) (ok : pos 0 ≤ℤ cell n ws j j) (itself : zs ≡ set ws (place n j j) (int_min (cell n ws j j) (pos 0))) where
    ws_long : length ws ≡ (n + 1) * (n + 1)
    ws_long = ap length is ∙ length-set ys (place n 0 j) _ ∙ long

    -- the write on the diagonal, and the one in the datum's row, leave all else
    own_other : (a b : ℕ) → place n a b ≢ place n j j → cell n zs a b ≡ cell n ws a b
    own_other a b ne = ap (λ vs. cell n vs a b) itself ∙ cell_other n ws j j a b _ ne

    row_other : (a b : ℕ) → place n a b ≢ place n 0 j → cell n ws a b ≡ cell n ys a b
    row_other a b ne = ap (λ vs. cell n vs a b) is ∙ cell_other n ys 0 j a b _ ne

    own_is : cell n zs j j ≡ pos 0
    own_is = ap (λ vs. cell n vs j j) itself ∙ cell_same n ws j j _ hj hj ws_long ∙ omega (arith, ints, clamps)

    row_is : cell n ws 0 j ≡ int_min (cell n ys 0 j) (pos 0)
    row_is = ap (λ vs. cell n vs 0 j) is ∙ cell_same n ys 0 j _ (omega arith) hj long

    floor_is : cell n zs 0 j ≤ℤ pos 0
    floor_is = ⊎_elim
        (λ z. let q : cell n zs 0 j ≡ pos 0 = subst (λ k. cell n zs k j ≡ pos 0) z own_is in omega (arith, ints))
        (λ z. let o : cell n zs 0 j ≡ cell n ws 0 j = own_other 0 j (λ e. z (sym (same_row n 0 j j j hj hj e))) in
        let r = row_is in omega (arith, ints, clamps))
        (cases_eq j 0)

    pub settled_more : Settled n (j + 1) xs zs
    settled_more = record {
      kept = kept_trans n xs ws zs floor_kept
          (zero_write n ws zs j j hj hj ws_long itself (λ x o. let d = difference_same x j in omega (arith, ints)));
      itself = λ i h hi. ⊎_elim
          (λ l.
          own_other i i (λ e. let r = same_row n i i j j hi hj e in omega arith)
          ∙ row_other i i (λ e. let r = same_column n i i 0 j hi hj e in omega arith)
          ∙ s.itself i l hi)
          (λ l. let e : i ≡ j = omega arith in rw e own_is)
          (cases_lt i j);
      floored = λ i h hi. ⊎_elim
          (λ l.
          let o : cell n zs 0 i ≡ cell n ws 0 i = own_other 0 i (λ e. let r = same_column n 0 i j j hi hj e in omega arith) in
          let p : cell n ws 0 i ≡ cell n ys 0 i = row_other 0 i (λ e. let r = same_column n 0 i 0 j hi hj e in omega arith) in
          let f = s.floored i l hi in omega (arith, ints))
          (λ l. let e : i ≡ j = omega arith in rw e floor_is)
          (cases_lt i j);
    }

pub settled_all : (n : ℕ) (xs ys : List ℤ) → Settled n (n + 1) xs ys → Settles n xs true ys
settled_all n xs ys s = record {
  levels = s.kept.levels;
  smaller = s.kept.smaller;
  itself = λ _ i hi. s.itself i (omega arith) hi;
  floored = λ _ i hi. below_zero (cell n ys 0 i) (s.floored i (omega arith) hi);
  sized = s.kept.sized;
  empty = λ e. absurd (true≢false e);
}
