-- A widened zone without the levels below the datum is closed at once. Assumes nothing.
--
-- In a widened zone the datum's bound on j is no larger than any other's, since no level was below the datum before the
-- step. So, where it is above 0, the one sum that becomes sharper when it is made 0 is that through the datum.
use Rattle.std.proofs.Common.{◌≡◌, ℕ, ◌+◌, ◌≤◌, Bool, true, false, cond, eqb, ◌⊎◌, List, pos, sym, refl, ap, ◌∙◌, subst, inl, inr, ⊎_elim, arith}
use lib.Signed.{lt_z}
use borrow.Author.Differences.{ints}
use Rattle.std.proofs.lemmas.Bool.{cases_eq, eqb-true}
use Rattle.std.proofs.lemmas.Bool.Decides.{nat_tests}
use Rattle.theory.specs.Bound.{Bound, none, at_most, Holds, NoLarger, sum, sharper, zero_bound}
use Rattle.theory.specs.Level.{Levels, difference, Rates}
use Rattle.theory.specs.Zone.{Zone, In, SameLevels, Closed, Floored, Canonical, widen}
use Rattle.theory.proofs.Bounds.{difference_is, no_larger_refl, no_larger_trans, sum_no_larger}
use Rattle.theory.proofs.Widen.{widening, widen_closed}
use Rattle.zones.specs.Lent.{bound_of_code, number_at, zone_in, rate_of, rates_in, WidenedLent}
use Rattle.zones.specs.Lent.{grown, grown_at, smaller, above_zero, floored_at, Grown, FlooredAll}
use Rattle.zones.proofs.Flooring.{floored_like}

-- a bound is none or above 0
abbrev pub positive : Bound → Bool
positive none = true
positive (at_most c) = lt_z (pos 0) c

-- without the levels below the datum
abbrev pub above_datum : Zone → Zone
above_datum w i j =
    cond (eqb i j) (w i j) (cond (positive (w 0 j)) (cond (eqb i 0) zero_bound (sharper (w i j) (w i 0))) (w i j))

-- the datum's bound on j is no larger than any other's
abbrev pub Lowest : ℕ → Zone → Type 0
Lowest n w = (k j : ℕ) → k ≤ n → j ≤ n → (k ≡ j → ⊥) → NoLarger (w 0 j) (w k j)

pub widen_lowest : (n : ℕ) (r : Rates) (z : Zone) → Canonical n z → Lowest n (widen r z)
widen_lowest n r z ca k j hk hj ne =
    let a = ca.closed.through 0 j k (omega arith) hj hk in let f = ca.floored k hk in let q = r.datum in
    let o = ca.closed.itself 0 (omega arith) in let g = ca.floored j hj in
    grind (arith, ints, nat_tests)

module _ (n : ℕ) (w : Zone) (cl : Closed n w) (lo : Lowest n w) where
  pub above_floored : Floored n (above_datum w)
  above_floored i hi = let o = cl.itself i hi in grind (arith, ints, nat_tests)

  pub above_same : SameLevels n w (above_datum w)
  above_same x = (
    λ p. record {
      datum = p.datum;
      holds = λ i j hi hj.
          let h = p.holds i j hi hj in let k = p.holds i 0 hi (omega arith) in
          let d = difference_is x i j in let e = difference_is x i 0 in let o = p.datum in
          grind (arith, ints, nat_tests);
    },
    λ p. record {
      datum = p.datum;
      holds = λ i j hi hj. let h = p.holds i j hi hj in let d = difference_is x i j in grind (arith, ints, nat_tests);
    },
  )

  -- no bound is below that on the datum's own level
  datum_low : (k : ℕ) → k ≤ n → NoLarger zero_bound (w k 0)
  datum_low k hk = let o = cl.itself 0 (omega arith) in let l = lo k 0 hk (omega arith) in grind (arith, ints)

  -- each bound is as it was or, where the datum's was above 0, that on the datum
  either : (i k : ℕ) → i ≤ n → k ≤ n →
      (above_datum w i k ≡ w i k) ⊎ ((above_datum w i k ≡ w i 0) × (positive (w 0 k) ≡ true) × (i ≡ k → ⊥))
  either i k hi hk = let o = cl.itself 0 (omega arith) in grind (arith, ints, nat_tests)

  no_larger : (i j : ℕ) → i ≤ n → j ≤ n → NoLarger (above_datum w i j) (w i j)
  no_larger i j hi hj = grind (arith, ints, nat_tests)

  by_datum : (i j : ℕ) → i ≤ n → j ≤ n → positive (w 0 j) ≡ true → (i ≡ j → ⊥) → NoLarger (above_datum w i j) (w i 0)
  by_datum i j hi hj p ne = let o = cl.itself 0 (omega arith) in grind (arith, ints, nat_tests)

  -- the sums of the bounds on the datum, and of those that stayed
  module _ (i j k : ℕ) (hi : i ≤ n) (hj : j ≤ n) (hk : k ≤ n) where
    stayed : NoLarger (above_datum w i j) (sum (w i k) (w k j))
    stayed = no_larger_trans _ (w i j) _ (no_larger i j hi hj) (cl.through i j k hi hj hk)

    -- the bound of i over j is no larger than that on the datum, or it is 0, which is no larger either
    over_datum : positive (w 0 j) ≡ true → NoLarger (above_datum w i j) (w i 0)
    over_datum p =
        let o = cl.itself i hi in let d = datum_low i hi in let b = by_datum i j hi hj p in
        ⊎_elim (λ e. subst (λ v. NoLarger (above_datum w i v) (w i 0)) e (grind (arith, ints, nat_tests))) b (cases_eq i j)

    last : positive (w 0 j) ≡ true → NoLarger (above_datum w i j) (sum (w i k) (w k 0))
    last p = no_larger_trans _ (w i 0) _ (over_datum p) (cl.through i 0 k hi (omega arith) hk)

    first : positive (w 0 k) ≡ true → NoLarger (above_datum w i j) (sum (w i 0) (w k j))
    first p = ⊎_elim
        (λ e.
        let o = cl.itself j hj in let q : positive (w 0 j) ≡ true = subst (λ v. positive (w 0 v) ≡ true) e p in
        let b = over_datum q in let same : w k j ≡ zero_bound = subst (λ v. w v j ≡ zero_bound) (sym e) o in
        grind (arith, ints))
        (λ ne.
        no_larger_trans _ (w i j) _ (no_larger i j hi hj)
        (no_larger_trans _ (sum (w i 0) (w 0 j)) _ (cl.through i j 0 hi hj (omega arith))
        (sum_no_larger (w i 0) (w 0 j) (w i 0) (w k j) (no_larger_refl (w i 0)) (lo k j hk hj ne))))
        (cases_eq k j)

    both : positive (w 0 j) ≡ true → NoLarger (above_datum w i j) (sum (w i 0) (w k 0))
    both p = let b = over_datum p in let d = datum_low k hk in grind (arith, ints)

    above_through : NoLarger (above_datum w i j) (sum (above_datum w i k) (above_datum w k j))
    above_through = elim (either i k hi hk) [
      | inl a ↦ elim (either k j hk hj) [ inl b ↦ rw (a, b) stayed | inr b ↦ rw (a, b.0) (last b.1) ]
      | inr a ↦ elim (either k j hk hj) [ inl b ↦ rw (a.0, b) (first a.1) | inr b ↦ rw (a.0, b.0) (both b.1) ]
    ]

  pub above_canonical : Canonical n (above_datum w)
  above_canonical = record {
    closed = record { itself = λ i hi. let o = cl.itself i hi in grind (arith, nat_tests); through = above_through };
    floored = above_floored;
  }

-- ---- zones that have the same bounds
module _ (n : ℕ) (z y : Zone) (same : (i j : ℕ) → i ≤ n → j ≤ n → z i j ≡ y i j) where
  pub in_same : (x : Levels) → In n z x → In n y x
  in_same x p = record {
    datum = p.datum;
    holds = λ i j hi hj. subst (λ b. Holds b (difference x i j)) (same i j hi hj) (p.holds i j hi hj);
  }

  pub canonical_same : Canonical n z → Canonical n y
  canonical_same ca = record {
    closed = record {
      itself = λ i hi. sym (same i i hi hi) ∙ ca.closed.itself i hi;
      through = λ i j k hi hj hk.
          rw (← same i j hi hj, ← same i k hi hk, ← same k j hk hj) (ca.closed.through i j k hi hj hk);
    };
    floored = λ i hi. rw (← same 0 i (omega arith) hi) (ca.floored i hi);
  }

-- ---- what the numbers of a lent zone say
code_zero : bound_of_code 1000001 ≡ zero_bound
unfolding bound_of_code
code_zero = refl

code_grown : (v by : ℕ) → bound_of_code (grown v by) ≡ sum (bound_of_code v) (at_most (pos by))
unfolding bound_of_code
code_grown v by = grind (arith, ints, nat_tests)

code_smaller : (a b : ℕ) → bound_of_code (smaller a b) ≡ sharper (bound_of_code a) (bound_of_code b)
unfolding bound_of_code
code_smaller a b = grind (arith, ints, nat_tests)

code_above : (v : ℕ) → above_zero v ≡ positive (bound_of_code v)
unfolding bound_of_code
code_above v = grind (arith, ints, nat_tests)

code_cond : (t : Bool) (a b : ℕ) → bound_of_code (cond t a b) ≡ cond t (bound_of_code a) (bound_of_code b)
code_cond true a b = refl
code_cond false a b = refl

-- a number on itself stands for 0, and the others grow
code_own :
    (t : Bool) (v by : ℕ) → (t ≡ true → bound_of_code v ≡ zero_bound) →
    bound_of_code (cond t v (grown v by)) ≡ cond t zero_bound (sum (bound_of_code v) (at_most (pos by)))
code_own true v by h = h refl
code_own false v by h = code_grown v by

-- the numbers without the levels below the datum, of which b, on the datum, is q
code_chosen :
    (own low first : Bool) (a b : ℕ) (low' : Bool) (q : Bound) → low ≡ low' → bound_of_code b ≡ q →
    bound_of_code (cond own a (cond low (cond first 1000001 b) a))
    ≡ cond own (bound_of_code a) (cond low' (cond first zero_bound q) (bound_of_code a))
code_chosen own low first a b low' q e f = rw (← e, ← f) (simp (code_cond, code_zero))

code_floored :
    (w : ℕ → ℕ → ℕ) (z : Zone) (i j : ℕ) →
    bound_of_code (w i j) ≡ z i j → bound_of_code (w 0 j) ≡ z 0 j → bound_of_code (w i 0) ≡ z i 0 →
    bound_of_code (floored_at w i j) ≡ above_datum z i j
code_floored w z i j e f g =
    rw (← e, ← f, ← g)
    (code_chosen (eqb i j) _ (eqb i 0) (w i j) _ _ _ (code_above (w 0 j)) (code_smaller (w i j) (w i 0)))

-- ---- a step of a lent zone
module _ (n : ℕ) (rise fall xs : List ℕ) where
  -- the zone, the rates and the zone after the step
  abbrev lent : Zone
  lent = zone_in n xs

  abbrev rates : Rates
  rates = rates_in rise fall

  abbrev wider : Zone
  wider = widen rates lent

  abbrev stands : ℕ → ℕ → ℕ
  stands a b = grown_at rise fall a b (number_at n xs a b)

  module _ (ca : Canonical n lent) where
    code_wider : (i j : ℕ) → i ≤ n → j ≤ n → bound_of_code (stands i j) ≡ wider i j
    code_wider i j hi hj =
        code_own (eqb i j) (number_at n xs i j) (rate_of rise i + rate_of fall j)
        (λ e. subst (λ v. lent i v ≡ zero_bound) (eqb-true i j e) (ca.closed.itself i hi))

    wider_canonical : Canonical n (above_datum wider)
    wider_canonical = above_canonical n wider (widen_closed n rates lent ca) (widen_lowest n rates lent ca)

    wider_same : SameLevels n wider (above_datum wider)
    wider_same = above_same n wider (widen_closed n rates lent ca) (widen_lowest n rates lent ca)

  module _ (ys : List ℕ) (each : (i j : ℕ) → i ≤ n → j ≤ n → number_at n ys i j ≡ floored_at stands i j) where
    left_is : Canonical n lent → (i j : ℕ) → i ≤ n → j ≤ n → zone_in n ys i j ≡ above_datum wider i j
    left_is ca i j hi hj =
        let o : 0 ≤ n = omega arith in let w = code_wider ca in
        ap bound_of_code (each i j hi hj) ∙ code_floored stands wider i j (w i j hi hj) (w 0 j o hj) (w i 0 hi o)

    widened_lent : WidenedLent n rise fall xs ys
    widened_lent = record {
      each = each;
      canonical = λ ca.
          canonical_same n (above_datum wider) (zone_in n ys) (λ i j hi hj. sym (left_is ca i j hi hj)) (wider_canonical ca);
      leads = λ ca x y p m.
          in_same n (above_datum wider) (zone_in n ys) (λ i j hi hj. sym (left_is ca i j hi hj)) y
          ((wider_same ca y).0 ((widening n rates lent ca).0 x y p m));
      comes = λ ca y p.
          (widening n rates lent ca).1 y ((wider_same ca y).1 (in_same n (zone_in n ys) (above_datum wider) (left_is ca) y p));
    }

-- numbers that have grown, and then are without the levels below the datum
pub widened_by : (n : ℕ) (rise fall xs ws ys : List ℕ) → Grown n rise fall xs ws → FlooredAll n ws ys →
    WidenedLent n rise fall xs ys
widened_by n rise fall xs ws ys g f = widened_lent n rise fall xs ys (λ i j hi hj.
    f i j hi hj
    ∙ floored_like (number_at n ws) (λ a b. grown_at rise fall a b (number_at n xs a b)) i j (g i j hi hj)
    (g 0 j (omega arith) hj) (g i 0 hi (omega arith)))
