-- To close a zone keeps just its levels, and leaves it closed, unless it has none. Assumes nothing.
--
-- Each sum that replaces a bound already held, so the levels stay. After turn k no bound is larger than a sum through any
-- m ≤ k: while the bound of k on itself is not negative, row k and column k do not change in turn k, and the four cases of
-- the two parts being old or new each give it.
use Rattle.std.proofs.Common.{◌≡◌, ℕ, zero, suc, ◌<◌, ◌≤◌, Bool, true, false, ◌⊎◌, sym, refl, inl, inr, arith}
use borrow.Author.Differences.{ints}
use Rattle.theory.specs.Bound.{Bound, Holds, NoLarger, sum, zero_bound, negative}
use Rattle.theory.specs.Level.{Levels, difference}
use Rattle.theory.specs.Zone.{Zone, In, SameLevels, Empty, Closed, Floored, Tame, relax, relaxed, close}
use Rattle.theory.specs.Law.{Relaxing, Closing}
use Rattle.theory.proofs.Bounds.{difference_same, difference_sum, no_larger_refl, no_larger_trans, no_larger_both}
use Rattle.theory.proofs.Bounds.{holds_sum, sum_no_larger, of_sharper, sharper_left, sharper_right}
use Rattle.theory.proofs.Bounds.{negative_none, not_negative}
use Rattle.theory.proofs.Tops.{before_or}
use Rattle.theory.proofs.Meet.{in_larger, meeting}

-- ---- one turn keeps the levels
pub sum_holds : (n : ℕ) (z : Zone) (x : Levels) (i j k : ℕ) → i ≤ n → j ≤ n → k ≤ n → In n z x →
    Holds (sum (z i k) (z k j)) (difference x i j)
sum_holds n z x i j k hi hj hk p =
    rw (difference_sum x i j k) (holds_sum (z i k) (z k j) (difference x i k) (difference x k j) (p.holds i k hi hk)
    (p.holds k j hk hj))

pub relax_same : (n : ℕ) (z : Zone) (k : ℕ) → k ≤ n → SameLevels n z (relax k z)
relax_same n z k hk x = (
  λ p. record {
    datum = p.datum;
    holds = λ i j hi hj. of_sharper (λ b. Holds b (difference x i j)) (z i j)
        (sum (z i k) (z k j)) (p.holds i j hi hj) (sum_holds n z x i j k hi hj hk p);
  },
  in_larger n (relax k z) z x (λ i j hi hj. sharper_left (z i j) (sum (z i k) (z k j))),
)

pub relaxing : Relaxing
relaxing n z k hk = (
  λ i j hi hj x. let m = meeting n z i j (sum (z i k) (z k j)) hi hj x in
      (λ p. m.0 p (sum_holds n z x i j k hi hj hk p), λ p. (m.1 p).0),
  relax_same n z k hk,
)

pub relaxed_same : (n : ℕ) (z : Zone) (m : ℕ) → m ≤ suc n → SameLevels n z (relaxed m z)
relaxed_same n z zero h x = (λ p. p, λ p. p)
relaxed_same n z (suc m) h x =
    let b = relaxed_same n z m (omega arith) x in let r = relax_same n (relaxed m z) m (omega arith) x in
    (λ p. r.0 (b.0 p), λ p. b.1 (r.1 p))

-- ---- no turn makes a bound larger
pub relaxed_smaller : (z : Zone) (k m i j : ℕ) → k ≤ m → NoLarger (relaxed m z i j) (relaxed k z i j)
relaxed_smaller z k zero i j h = let e : k ≡ 0 = omega arith in rw e (no_larger_refl (z i j))
relaxed_smaller z k (suc m) i j h = go (before_or k (suc m) (omega arith)) (relaxed_smaller z k m i j)
  where
    go : (k ≡ suc m) ⊎ (k < suc m) → (k ≤ m → NoLarger (relaxed m z i j) (relaxed k z i j)) →
        NoLarger (relaxed (suc m) z i j) (relaxed k z i j)
    go (inl e) ih = rw e (no_larger_refl (relaxed (suc m) z i j))
    go (inr l) ih =
        no_larger_trans (relaxed (suc m) z i j) (relaxed m z i j) (relaxed k z i j)
        (sharper_left (relaxed m z i j) (sum (relaxed m z i m) (relaxed m z m j))) (ih (omega arith))

-- ---- the step of Floyd and Warshall
-- no bound is larger than a sum through a number below m
abbrev pub Through : ℕ → ℕ → Zone → Type 0
Through n m z = (i j k : ℕ) → i ≤ n → j ≤ n → k < m → NoLarger (z i j) (sum (z i k) (z k j))

-- a detour over a number whose bound on itself is not negative gains nothing
detour_left : (a o : Bound) → NoLarger zero_bound o → NoLarger a (sum a o)
detour_left a o h = grind (arith, ints)

detour_right : (a o : Bound) → NoLarger zero_bound o → NoLarger a (sum o a)
detour_right a o h = grind (arith, ints)

-- ik + kj is no larger than ik + (km + (mk + kj)), where km + mk is not negative
detour_both : (ik km mk kj o : Bound) → NoLarger zero_bound o → NoLarger o (sum km mk) →
    NoLarger (sum ik kj) (sum (sum ik km) (sum mk kj))
detour_both ik km mk kj o h k = grind (arith, ints)

through_last : (im mk kj ik : Bound) → NoLarger ik (sum im mk) → NoLarger (sum ik kj) (sum im (sum mk kj))
through_last im mk kj ik h = grind (arith, ints)

through_first : (ik km mj kj : Bound) → NoLarger kj (sum km mj) → NoLarger (sum ik kj) (sum (sum ik km) mj)
through_first ik km mj kj h = grind (arith, ints)

module _ (n k : ℕ) (z : Zone) (hk : k ≤ n) (th : Through n k z) (o : NoLarger zero_bound (z k k)) where
  -- through k
  step_k : (i j : ℕ) → NoLarger (relax k z i j) (sum (relax k z i k) (relax k z k j))
  step_k i j =
      no_larger_trans (relax k z i j) (sum (z i k) (z k j)) (sum (relax k z i k) (relax k z k j))
      (sharper_right (z i j) (sum (z i k) (z k j)))
      (sum_no_larger (z i k) (z k j) (relax k z i k) (relax k z k j)
      (of_sharper (λ v. NoLarger (z i k) v) (z i k) (sum (z i k) (z k k)) (no_larger_refl (z i k))
      (detour_left (z i k) (z k k) o))
      (of_sharper (λ v. NoLarger (z k j) v) (z k j) (sum (z k k) (z k j)) (no_larger_refl (z k j))
      (detour_right (z k j) (z k k) o)))

  -- through an earlier m: each part is old or new
  step_m : (i j m : ℕ) → i ≤ n → j ≤ n → m < k → NoLarger (relax k z i j) (sum (relax k z i m) (relax k z m j))
  step_m i j m hi hj hm =
      let new : Bound = relax k z i j in
      let ij = z i j in let ik = z i k in let kj = z k j in let im = z i m in let mj = z m j in let km = z k m in
      let mk = z m k in
      of_sharper (λ v. NoLarger new (sum v (relax k z m j))) im (sum ik km)
      (of_sharper (λ v. NoLarger new (sum im v)) mj (sum mk kj)
      (no_larger_trans new ij (sum im mj) (sharper_left ij (sum ik kj)) (th i j m hi hj hm))
      (no_larger_trans new (sum ik kj) (sum im (sum mk kj)) (sharper_right ij (sum ik kj))
      (through_last im mk kj ik (th i k m hi hk hm))))
      (of_sharper (λ v. NoLarger new (sum (sum ik km) v)) mj (sum mk kj)
      (no_larger_trans new (sum ik kj) (sum (sum ik km) mj) (sharper_right ij (sum ik kj))
      (through_first ik km mj kj (th k j m hk hj hm)))
      (no_larger_trans new (sum ik kj) (sum (sum ik km) (sum mk kj)) (sharper_right ij (sum ik kj))
      (detour_both ik km mk kj (z k k) o (th k k m hk hk hm))))

  pub turn_through : Through n (suc k) (relax k z)
  turn_through i j m hi hj hm = go (before_or m k hm)
    where
      go : (m ≡ k) ⊎ (m < k) → NoLarger (relax k z i j) (sum (relax k z i m) (relax k z m j))
      go (inl e) = rw e (step_k i j)
      go (inr h) = step_m i j m hi hj h

-- ---- all turns: the bounds of the numbers on themselves tell
-- none of the bounds on themselves was negative when its turn came
abbrev pub Passed : ℕ → Zone → Type 0
Passed m z = (k : ℕ) → k < m → NoLarger zero_bound (relaxed k z k k)

pub passed_through : (n : ℕ) (z : Zone) (m : ℕ) → m ≤ suc n → Passed m z → Through n m (relaxed m z)
passed_through n z zero h p = λ i j k hi hj hk. absurd (omega arith)
passed_through n z (suc m) h p =
    turn_through n m (relaxed m z) (omega arith) (passed_through n z m (omega arith) (λ k l. p k (omega arith)))
    (p m (omega arith))

-- where none is negative in the end, none was on the way
pub tame_closed : (n : ℕ) (z : Zone) → Tame n z → ((i : ℕ) → i ≤ n → NoLarger zero_bound (close n z i i)) → Closed n (close n z)
tame_closed n z ta d =
    let th : Through n (suc n) (close n z) = passed_through n z (suc n) (omega arith)
    (λ k h. no_larger_trans zero_bound (close n z k k) (relaxed k z k k) (d k (omega arith))
    (relaxed_smaller z k (suc n) k k (omega arith))) in
    record {
      itself = λ i hi. no_larger_both (close n z i i) zero_bound
          (no_larger_trans (close n z i i) (z i i) zero_bound (relaxed_smaller z 0 (suc n) i i (omega arith)) (ta i hi))
          (d i hi);
      through = λ i j k hi hj hk. th i j k hi hj (omega arith);
    }

-- a negative bound of a number on itself: no levels
pub negative_empty : (n : ℕ) (z : Zone) (k : ℕ) → k ≤ n → negative (z k k) ≡ true → Empty n z
negative_empty n z k h e x p = negative_none (z k k) e (rw (sym (difference_same x k)) (p.holds k k h h))

-- look at the first m of them
abbrev pub Contradiction : ℕ → Zone → Type 0
Contradiction m y = (k : ℕ) × (k < m) × (negative (y k k) ≡ true)

pub look : (y : Zone) (m : ℕ) → ((i : ℕ) → i < m → NoLarger zero_bound (y i i)) ⊎ Contradiction m y
look y zero = inl (λ i h. absurd (omega arith))
look y (suc m) = go (negative (y m m)) refl (look y m)
  where
    go : (t : Bool) → negative (y m m) ≡ t → ((i : ℕ) → i < m → NoLarger zero_bound (y i i))
        ⊎ Contradiction m y → ((i : ℕ) → i < suc m → NoLarger zero_bound (y i i)) ⊎ Contradiction (suc m) y
    go true e r = inr (m, omega arith, e)
    go false e (inr r) = inr (r.0, (let h = r.1 in omega arith), r.2)
    go false e (inl f) = inl (λ i h. at i (before_or i m h))
      where
        at : (i : ℕ) → (i ≡ m) ⊎ (i < m) → NoLarger zero_bound (y i i)
        at i (inl q) = rw q (not_negative (y m m) e)
        at i (inr l) = f i l

pub closing : Closing
closing n z ta = (
  relaxed_same n z (suc n) (omega arith),
  λ i j hi hj. relaxed_smaller z 0 (suc n) i j (omega arith),
  go
      (look (close n z) (suc n)),
)
  where
    go : ((i : ℕ) → i < suc n → NoLarger zero_bound (close n z i i)) ⊎ Contradiction (suc n) (close n z) →
        Closed n (close n z) ⊎ ((k : ℕ) × (k ≤ n) × (negative (close n z k k) ≡ true) × Empty n z)
    go (inl d) = inl (tame_closed n z ta (λ i hi. d i (omega arith)))
    go (inr (k, h, e)) = inr (
      k,
      omega arith,
      e,
      λ x p. negative_empty n (close n z) k (omega arith) e x
          ((relaxed_same n z (suc n) (omega arith) x).0 p),
    )

-- a floor stays under a closing
pub close_floored : (n : ℕ) (z : Zone) → Floored n z → Floored n (close n z)
close_floored n z fl i hi = no_larger_trans (close n z 0 i) (z 0 i) zero_bound
    (relaxed_smaller z 0 (suc n) 0 i (omega arith)) (fl i hi)
