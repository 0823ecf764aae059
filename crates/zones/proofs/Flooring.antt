-- The loops that take the levels below the datum from a lent zone, basin by basin. Assumes nothing.
use Rattle.std.proofs.Common.{◌≡◌, ℕ, ◌+◌, ◌*◌, ◌<◌, ◌≤◌, true, cond, eqb, ◌⊎◌, List, length, set, sym, refl, ◌∙◌, subst, inl, inr, ⊎_elim, arith}
use Rattle.std.proofs.lemmas.List.{get_or-set_same, get_or-set_other}
use Rattle.std.proofs.lemmas.Bool.{cases_eq, eq-eqb, ne_eqb, cond-true, cond-false}
use Rattle.std.proofs.lemmas.Bool.Decides.{nat_tests}
use Rattle.zones.specs.Lent.{number_at, smaller, above_zero, floored_at, FlooredBasin}
use Rattle.zones.proofs.Cells.{place, place_within, same_row, same_column}

-- ---- a write
module _ (n i j v : ℕ) (xs : List ℕ) (hi : i ≤ n) (hj : j ≤ n) where
  written : length xs ≡ (n + 1) * (n + 1) → number_at n (set xs (place n i j) v) i j ≡ v
  written long =
      let p = place_within n i j hi hj in let within : place n i j < length xs = omega arith in
      get_or-set_same xs (place n i j) v 0 within

  elsewhere : (a b : ℕ) → b ≤ n → (a ≡ i → b ≡ j → ⊥) → number_at n (set xs (place n i j) v) a b ≡ number_at n xs a b
  elsewhere a b hb ne =
      get_or-set_other xs (place n i j) (place n a b) v 0 (λ e. ne (same_row n a b i j hb hj e) (same_column n a b i j hb hj e))

-- ---- the column of basin j, where it could be below the datum
-- what the bound of another number a on j becomes
abbrev lowered : (ℕ → ℕ → ℕ) → ℕ → ℕ → ℕ
lowered w a j = cond (eqb a j) (w a j) (smaller (w a j) (w a 0))

lowered_own : (w : ℕ → ℕ → ℕ) (a j : ℕ) → a ≡ j → w a j ≡ lowered w a j
lowered_own w a j e = sym (cond-true (eqb a j) (w a j) (smaller (w a j) (w a 0)) (eq-eqb a j e))

lowered_other : (w : ℕ → ℕ → ℕ) (a j : ℕ) → (a ≡ j → ⊥) → smaller (w a j) (w a 0) ≡ lowered w a j
lowered_other w a j ne = sym (cond-false (eqb a j) (w a j) (smaller (w a j) (w a 0)) (ne_eqb a j ne))

-- rows 1 to i of column j have become so, and all else is as it was
pub record Column (n j i : ℕ) (xs ys : List ℕ) : Type 0 where
  pub done : (a : ℕ) → 1 ≤ a → a < i → a ≤ n → number_at n ys a j ≡ lowered (number_at n xs) a j
  pub rest : (a b : ℕ) → a ≤ n → b ≤ n → (b ≡ j → (a ≡ 0) ⊎ (i ≤ a)) → number_at n ys a b ≡ number_at n xs a b

module _ (n j i : ℕ) (xs ys : List ℕ) (some : 1 ≤ j) (hj : j ≤ n) (low : 1 ≤ i) (hi : i ≤ n) (t : Column n j i xs ys) where
  as_it_was : number_at n ys i j ≡ number_at n xs i j
  as_it_was = t.rest i j hi hj (λ _. inr (omega arith))

  column_more :
      (zs : List ℕ) → number_at n zs i j ≡ lowered (number_at n xs) i j →
      ((a b : ℕ) → b ≤ n → (a ≡ i → b ≡ j → ⊥) → number_at n zs a b ≡ number_at n ys a b) → Column n j (i + 1) xs zs
  column_more zs here other = record {
    done = λ a l h ha. ⊎_elim
        (λ e. subst (λ k. number_at n zs k j ≡ lowered (number_at n xs) k j) (sym e) here)
        (λ ne. other a j hj (λ e _. ne e) ∙ t.done a l (omega arith) ha)
        (cases_eq a i);
    rest = λ a b ha hb h.
        other a b hb (λ e f. ⊎_elim (λ z. omega arith) (λ m. omega arith) (h f))
        ∙ t.rest a b ha hb (λ f. ⊎_elim (λ z. inl z) (λ m. inr (omega arith)) (h f));
  }

  pub column_skip : i ≡ j → Column n j (i + 1) xs ys
  column_skip e = column_more ys (as_it_was ∙ lowered_own (number_at n xs) i j e) (λ a b _ _. refl)

  pub column_write :
      (v : ℕ) → (i ≡ j → ⊥) → length ys ≡ (n + 1) * (n + 1) → v ≡ smaller (number_at n ys i j) (number_at n ys i 0) →
      Column n j (i + 1) xs (set ys (place n i j) v)
  column_write v ne long is =
      let datum : number_at n ys i 0 ≡ number_at n xs i 0 = t.rest i 0 hi (omega arith) (λ e. absurd (omega arith)) in
      let old : v ≡ smaller (number_at n xs i j) (number_at n xs i 0) = is ∙ rw (as_it_was, datum) in
      column_more (set ys (place n i j) v)
      (written n i j v ys hi hj long ∙ old ∙ lowered_other (number_at n xs) i j ne) (elsewhere n i j v ys hi hj)

-- the datum's own bound is written last
datum_row :
    (w : ℕ → ℕ → ℕ) (a j : ℕ) → 1 ≤ j → above_zero (w 0 j) ≡ true → floored_at w a j ≡ cond (eqb a 0) 1000001 (lowered w a j)
datum_row w a j some low = grind (arith, nat_tests)

module _ (n j : ℕ) (xs ys : List ℕ) (some : 1 ≤ j) (hj : j ≤ n) (long : length ys ≡ (n + 1) * (n + 1))
    (low : above_zero (number_at n xs 0 j) ≡ true) (t : Column n j (n + 1) xs ys) where
  column_all :
      (a : ℕ) → a ≤ n →
      number_at n (set ys (place n 0 j) 1000001) a j ≡ cond (eqb a 0) 1000001 (lowered (number_at n xs) a j)
  column_all a ha = ⊎_elim
      (λ e. rw e (written n 0 j 1000001 ys (omega arith) hj long))
      (λ ne.
      elsewhere n 0 j 1000001 ys (omega arith) hj a j hj (λ e _. ne e) ∙ t.done a (omega arith) (omega arith) ha
      ∙ sym (cond-false (eqb a 0) 1000001 (lowered (number_at n xs) a j) (ne_eqb a 0 ne)))
      (cases_eq a 0)

  pub basin_floored : FlooredBasin n j xs (set ys (place n 0 j) 1000001)
  basin_floored a b ha hb = ⊎_elim
      (λ e.
      let here = sym (datum_row (number_at n xs) a j some low) in
      rw e (column_all a ha ∙ here ∙ sym (cond-true (eqb j j) _ _ (eq-eqb j j refl))))
      (λ ne.
      elsewhere n 0 j 1000001 ys (omega arith) hj a b hb (λ _ e. ne e) ∙ t.rest a b ha hb (λ e. absurd (ne e))
      ∙ sym (cond-false (eqb b j) _ _ (ne_eqb b j ne)))
      (cases_eq b j)

-- ---- basin after basin
pub floored_like :
    (w v : ℕ → ℕ → ℕ) (i j : ℕ) → w i j ≡ v i j → w 0 j ≡ v 0 j → w i 0 ≡ v i 0 → floored_at w i j ≡ floored_at v i j
floored_like w v i j e f g = rw (e, f, g)

-- the bounds on the datum stay
floored_datum : (w : ℕ → ℕ → ℕ) (a : ℕ) → floored_at w a 0 ≡ w a 0
floored_datum w a = grind (arith, nat_tests)

-- the columns below j are without the levels below the datum, and the others as they were
pub record Columns (n j : ℕ) (xs ys : List ℕ) : Type 0 where
  pub done : (a b : ℕ) → a ≤ n → b ≤ n → b < j → number_at n ys a b ≡ floored_at (number_at n xs) a b
  pub rest : (a b : ℕ) → a ≤ n → b ≤ n → j ≤ b → number_at n ys a b ≡ number_at n xs a b

module _ (n j : ℕ) (xs ys zs : List ℕ) (some : 1 ≤ j) (hj : j ≤ n) (t : Columns n j xs ys) (u : FlooredBasin n j ys zs) where
  column_here : (a : ℕ) → a ≤ n → number_at n zs a j ≡ floored_at (number_at n xs) a j
  column_here a ha =
      u a j ha hj ∙ cond-true (eqb j j) _ _ (eq-eqb j j refl)
      ∙ floored_like (number_at n ys) (number_at n xs) a j
      (t.rest a j ha hj (omega arith)) (t.rest 0 j (omega arith) hj (omega arith))
      (t.done a 0 ha (omega arith) (omega arith) ∙ floored_datum (number_at n xs) a)

  column_other : (a b : ℕ) → a ≤ n → b ≤ n → (b ≡ j → ⊥) → number_at n zs a b ≡ number_at n ys a b
  column_other a b ha hb ne = u a b ha hb ∙ cond-false (eqb b j) _ _ (ne_eqb b j ne)

  pub columns_more : Columns n (j + 1) xs zs
  columns_more = record {
    done = λ a b ha hb h. ⊎_elim
        (λ e. subst (λ k. number_at n zs a k ≡ floored_at (number_at n xs) a k) (sym e) (column_here a ha))
        (λ ne. column_other a b ha hb ne ∙ t.done a b ha hb (omega arith))
        (cases_eq b j);
    rest = λ a b ha hb h. column_other a b ha hb (omega arith) ∙ t.rest a b ha hb (omega arith);
  }
