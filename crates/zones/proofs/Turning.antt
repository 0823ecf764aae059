-- What a turn of the closing through one number does, up to the place that it has come to. Assumes nothing.
--
-- In turn k the row and the column of k stay, since the bound of k on itself is 0: so a turn in place does what a turn at
-- once would do.
use Rattle.std.proofs.Common.{◌≡◌, ℕ, ◌+◌, ◌-◌, ◌*◌, ◌^◌, ◌<◌, ◌≤◌, true, false, ◌≢◌, ◌⊎◌, List, length, set, ℤ, pos, ◌<ℤ◌, sym, refl, ap, ◌∙◌, subst, inl, inr, ⊎_elim, add-mul, arith, pow_mono}
use lib.Signed.{lt_z}
use Rattle.std.specs.Int.{int_min}
use Rattle.std.proofs.lemmas.Nat.{pow-add}
use Rattle.std.proofs.lemmas.Int.{ints}
use Rattle.std.proofs.lemmas.Bool.{cases_lt, true≢false, false≢true}
use Rattle.theory.specs.Bound.{Bound, Holds, NoLarger, sum, sharper, zero_bound}
use Rattle.theory.specs.Level.{Levels, difference}
use Rattle.theory.specs.Zone.{Zone, In, SameLevels, relax}
use Rattle.theory.proofs.Bounds.{difference_same, no_larger_trans, no_larger_of, holds_larger, sharper_left}
use Rattle.theory.proofs.Bounds.{of_sharper}
use Rattle.theory.proofs.Close.{Through, turn_through, sum_holds}
use Rattle.theory.proofs.Meet.{in_larger}
use Rattle.bounds.specs.Meaning.{bound_of, number_of, total_sum, Sized}
use Rattle.bounds.proofs.Laws.{never_sharper, number_exact, sized_sum, sized_more, sharper_means}
use Rattle.zones.specs.Numbers.{cell, zone_of, ZeroDiagonal, AllSized, closing_reach, TurnsFar}
use Rattle.zones.proofs.Cells.{place, place_within, same_row, same_column, cell_same, cell_other}

-- what an i64 says of a bound
abbrev pub rounded : Bound → Bound
rounded b = bound_of (number_of b)

-- the bound of a over b after the turn through k
abbrev pub turn : Zone → ℕ → ℕ → ℕ → Bound
turn z k a b = sharper (z a b) (rounded (sum (z a k) (z k b)))

-- ---- places from lo to hi are turned through k, and the others are as they were
pub record Turned (n k lo hi : ℕ) (z y : Zone) : Type 0 where
  pub done : (a b : ℕ) → a ≤ n → b ≤ n → lo ≤ place n a b → place n a b < hi → y a b ≡ turn z k a b
  pub before : (a b : ℕ) → a ≤ n → b ≤ n → place n a b < lo → y a b ≡ z a b
  pub after : (a b : ℕ) → a ≤ n → b ≤ n → hi ≤ place n a b → y a b ≡ z a b

-- a sum with 0 makes nothing sharper
column_stays : (b : Bound) → sharper b (rounded (sum b zero_bound)) ≡ b
column_stays b = let h = never_sharper (sum b zero_bound) in grind (arith, ints)

row_stays : (b : Bound) → sharper b (rounded (sum zero_bound b)) ≡ b
row_stays b = let h = never_sharper (sum zero_bound b) in grind (arith, ints)

module _ (n k lo hi : ℕ) (z y : Zone) (t : Turned n k lo hi z y) where
  -- turned, or as it was
  pub turned_either : (a b : ℕ) → a ≤ n → b ≤ n → (y a b ≡ turn z k a b) ⊎ (y a b ≡ z a b)
  turned_either a b ha hb = ⊎_elim
      (λ l. inr (t.before a b ha hb l))
      (λ l. ⊎_elim (λ h. inl (t.done a b ha hb l h)) (λ h. inr (t.after a b ha hb h)) (cases_lt (place n a b) hi))
      (cases_lt (place n a b) lo)

  -- the row and the column of k stay
  pub turned_column : k ≤ n → z k k ≡ zero_bound → (a : ℕ) → a ≤ n → y a k ≡ z a k
  turned_column kl o a ha = ⊎_elim
      (λ e. e ∙ ap (λ v. sharper (z a k) (rounded (sum (z a k) v))) o ∙ column_stays (z a k))
      (λ e. e)
      (turned_either a k ha kl)

  pub turned_row : k ≤ n → z k k ≡ zero_bound → (b : ℕ) → b ≤ n → y k b ≡ z k b
  turned_row kl o b hb = ⊎_elim
      (λ e. e ∙ ap (λ v. sharper (z k b) (rounded (sum v (z k b)))) o ∙ row_stays (z k b))
      (λ e. e)
      (turned_either k b kl hb)

  pub turned_smaller : (a b : ℕ) → a ≤ n → b ≤ n → NoLarger (y a b) (z a b)
  turned_smaller a b ha hb = ⊎_elim
      (λ e. rw e (sharper_left (z a b) (rounded (sum (z a k) (z k b)))))
      (λ e. no_larger_of e)
      (turned_either a b ha hb)

  -- no level is lost: no sum is sharper than the exact one
  turn_holds : k ≤ n → (x : Levels) → In n z x → (a b : ℕ) → a ≤ n → b ≤ n → Holds (turn z k a b) (difference x a b)
  turn_holds kl x p a b ha hb =
      let s : Bound = sum (z a k) (z k b) in
      of_sharper (λ w. Holds w (difference x a b)) (z a b) (rounded s) (p.holds a b ha hb)
      (holds_larger s (rounded s) (difference x a b) (never_sharper s) (sum_holds n z x a b k ha hb kl p))

  pub turned_same : k ≤ n → SameLevels n z y
  turned_same kl x = (
    λ p. record {
      datum = p.datum;
      holds = λ a b ha hb. ⊎_elim (λ e. rw e (turn_holds kl x p a b ha hb))
          (λ e. rw e (p.holds a b ha hb)) (turned_either a b ha hb);
    },
    in_larger n y z x turned_smaller,
  )

pub turned_more : (n k lo mid hi : ℕ) (z y w : Zone) → lo ≤ mid → mid ≤ hi → k ≤ n → z k k ≡ zero_bound →
    Turned n k lo mid z y → Turned n k mid hi y w → Turned n k lo hi z w
turned_more n k lo mid hi z y w l m kl o t u = record {
  done = λ a b ha hb p q. ⊎_elim
      (λ h. u.before a b ha hb h ∙ t.done a b ha hb p h)
      (λ h. let e = t.after a b ha hb h in let c = turned_column n k lo mid z y t kl o a ha in
      let r = turned_row n k lo mid z y t kl o b hb in u.done a b ha hb h q ∙ rw (e, c, r))
      (cases_lt (place n a b) mid);
  before = λ a b ha hb h. u.before a b ha hb (omega arith) ∙ t.before a b ha hb h;
  after = λ a b ha hb h. u.after a b ha hb h ∙ t.after a b ha hb (omega arith);
}

-- ---- one place of row i more, in the numbers
pub zero_is : {v : ℤ} → v ≡ pos 0 → bound_of v ≡ zero_bound
unfolding bound_of
zero_is e = ap bound_of e

sum_is : (a b v : ℤ) → v ≡ total_sum a b → bound_of v ≡ rounded (sum (bound_of a) (bound_of b))
unfolding total_sum
sum_is a b v e = ap bound_of e

less_is : (a b : ℤ) → lt_z b a ≡ true → b ≡ int_min a b
less_is a b h = grind (arith, ints)

not_less_is : (a b : ℤ) → lt_z b a ≡ false → a ≡ int_min a b
not_less_is a b h = grind (arith, ints)

module _ (n k i j : ℕ) (xs ys : List ℤ) (hi : i ≤ n) (hj : j ≤ n) (kl : k ≤ n) (long : length ys ≡ (n + 1) * (n + 1))
    (o : cell n xs k k ≡ pos 0) (t : Turned n k (place n i 0) (place n i j) (zone_of n xs) (zone_of n ys)) (v : ℤ)
    (is : v ≡ total_sum (cell n xs i k) (cell n ys k j)) where
  -- the number of i over k was read when the row was begun
  through_now : bound_of v ≡ rounded (sum (zone_of n ys i k) (zone_of n ys k j))
  through_now =
      sum_is (cell n xs i k) (cell n ys k j) v is
      ∙ ap (λ b. rounded (sum b (zone_of n ys k j))) (sym (turned_column n k (place n i 0) (place n i j) (zone_of n xs)
      (zone_of n ys) t kl (zero_is o) i hi))

  one_more : (zs : List ℤ) → Turned n k (place n i j) (place n i j + 1) (zone_of n ys) (zone_of n zs) →
      Turned n k (place n i 0) (place n i (j + 1)) (zone_of n xs) (zone_of n zs)
  one_more zs u =
      subst (λ p. Turned n k (place n i 0) p (zone_of n xs) (zone_of n zs)) (omega arith)
      (turned_more n k (place n i 0) (place n i j) (place n i j + 1) (zone_of n xs) (zone_of n ys) (zone_of n zs)
      (omega arith) (omega arith) kl (zero_is o) t u)

  pub row_write : lt_z v (cell n ys i j) ≡ true → Turned n k (place n i 0) (place n i (j + 1)) (zone_of n xs)
      (zone_of n (set ys (place n i j) v))
  row_write less = one_more (set ys (place n i j) v) record {
    done = λ a b ha hb l h.
        let e : place n a b ≡ place n i j = omega arith in
        rw (same_row n a b i j hb hj e, same_column n a b i j hb hj e)
        (ap bound_of (cell_same n ys i j v hi hj long ∙ less_is (cell n ys i j) v less) ∙ sharper_means (cell n ys i j) v
        ∙ ap (sharper (zone_of n ys i j)) through_now);
    before = λ a b _ _ h. ap bound_of (cell_other n ys i j a b v (λ e. omega arith));
    after = λ a b _ _ h. ap bound_of (cell_other n ys i j a b v (λ e. omega arith));
  }

  pub row_skip : lt_z v (cell n ys i j) ≡ false → Turned n k (place n i 0) (place n i (j + 1)) (zone_of n xs) (zone_of n ys)
  row_skip not-less = one_more ys record {
    done = λ a b ha hb l h.
        let e : place n a b ≡ place n i j = omega arith in
        rw (same_row n a b i j hb hj e, same_column n a b i j hb hj e)
        (ap bound_of (not_less_is (cell n ys i j) v not-less) ∙ sharper_means (cell n ys i j) v
        ∙ ap (sharper (zone_of n ys i j)) through_now);
    before = λ a b _ _ _. refl;
    after = λ a b _ _ _. refl;
  }

-- a bound below 0 does not hold of a level and itself
pub below_itself : (v : ℤ) → v <ℤ pos 0 → Holds (bound_of v) (pos 0) → ⊥
unfolding bound_of
below_itself v h q = grind (arith, ints)

-- a row is done
pub row_done : (n k i j : ℕ) (z y w : Zone) → j ≡ n + 1 → k ≤ n → z k k ≡ zero_bound → Turned n k 0 (place n i 0) z y →
    Turned n k (place n i 0) (place n i j) y w → Turned n k 0 (place n (i + 1) 0) z w
row_done n k i j z y w e kl o t u =
    subst (λ p. Turned n k 0 p z w) (omega (arith, add-mul i 1 (n + 1)))
    (turned_more n k 0 (place n i 0) (place n i j) z y w (omega arith) (omega arith) kl o t u)

-- a write off the diagonal leaves it 0
pub diagonal_write : (n i j : ℕ) (xs : List ℤ) (v : ℤ) → j ≤ n → i ≢ j → ZeroDiagonal n xs →
    ZeroDiagonal n (set xs (place n i j) v)
diagonal_write n i j xs v hj ne z a ha =
    cell_other n xs i j a a v (λ e. ne (sym (same_row n a a i j ha hj e) ∙ same_column n a a i j ha hj e)) ∙ z a ha

-- ---- all turns below k are done
pub record Begun (n k : ℕ) (xs ys : List ℤ) : Type 0 where
  pub levels : SameLevels n (zone_of n xs) (zone_of n ys)
  pub smaller : (i j : ℕ) → i ≤ n → j ≤ n → NoLarger (zone_of n ys i j) (zone_of n xs i j)
  pub itself : ZeroDiagonal n ys
  pub sized : (e : ℕ) → e ≤ 53 → AllSized (2 ^ e) n xs → AllSized (2 ^ (e + k)) n ys
  pub through : AllSized closing_reach n xs → Through n k (zone_of n ys)

-- a size doubles in a turn, and stays small enough for exact sums
doubled : (e k : ℕ) → e ≤ 53 → k ≤ 8 → (2 ^ (e + k) + 2 ^ (e + k) ≡ 2 ^ (e + (k + 1))) × (2 ^ (e + (k + 1)) ≤ 2 ^ 63 - 2)
doubled e k he hk =
    let d : 2 ^ (e + (k + 1)) ≡ 2 ^ (e + k) * 2 ^ 1 = ap (λ v. 2 ^ v) (omega arith) ∙ pow-add 2 (e + k) 1 in
    let q : e + (k + 1) ≤ 62 = omega arith in
    let m : 2 ^ (e + (k + 1)) ≤ 2 ^ 62 = pow_mono q in
    (omega arith, omega arith)

module _ (n k : ℕ) (xs ys zs : List ℤ) (b : Begun n k xs ys) (small : n ≤ 8) (kl : k ≤ n) where
  module _ (e : ℕ) (he : e ≤ 53) (s : AllSized (2 ^ e) n xs) (i j : ℕ) (hi : i ≤ n) (hj : j ≤ n) where
    sum_sized : Sized (2 ^ (e + (k + 1))) (sum (zone_of n ys i k) (zone_of n ys k j))
    sum_sized =
        subst (λ h. Sized h (sum (zone_of n ys i k) (zone_of n ys k j))) (doubled e k he (omega arith)).0
        (sized_sum (2 ^ (e + k)) (2 ^ (e + k)) (zone_of n ys i k) (zone_of n ys k j) (b.sized e he s i k hi kl)
        (b.sized e he s k j kl hj))

    relax_sized : Sized (2 ^ (e + (k + 1))) (relax k (zone_of n ys) i j)
    relax_sized =
        of_sharper (Sized (2 ^ (e + (k + 1)))) (zone_of n ys i j) (sum (zone_of n ys i k) (zone_of n ys k j))
        (sized_more (2 ^ (e + k)) (2 ^ (e + (k + 1))) (zone_of n ys i j) (let p = (doubled e k he (omega arith)).0 in
        omega arith) (b.sized e he s i j hi hj))
        sum_sized

    -- so each sum of the turn is exact
    exact : turn (zone_of n ys) k i j ≡ relax k (zone_of n ys) i j
    exact =
        let w : Bound = sum (zone_of n ys i k) (zone_of n ys k j) in
        ap (sharper (zone_of n ys i j)) (number_exact w (sized_more (2 ^ (e + (k + 1))) (2 ^ 63 - 2) w
        (doubled e k he (omega arith)).1 sum_sized))

    whole : Turned n k 0 (place n (n + 1) 0) (zone_of n ys) (zone_of n zs) → zone_of n zs i j ≡ relax k (zone_of n ys) i j
    whole t = t.done i j hi hj (omega arith) (let p = place_within n i j hi hj in omega arith) ∙ exact

  -- a whole turn
  pub begun_more : Turned n k 0 (place n (n + 1) 0) (zone_of n ys) (zone_of n zs) → ZeroDiagonal n zs → Begun n (k + 1) xs zs
  begun_more t z = record {
    levels = λ x. let u = b.levels x in let v = turned_same n k 0 (place n (n + 1) 0) (zone_of n ys)
        (zone_of n zs) t kl x in (λ p. v.0 (u.0 p), λ p. u.1 (v.1 p));
    smaller = λ i j hi hj. no_larger_trans (zone_of n zs i j) (zone_of n ys i j) (zone_of n xs i j)
        (turned_smaller n k 0 (place n (n + 1) 0) (zone_of n ys) (zone_of n zs) t i j hi hj) (b.smaller i j hi hj);
    itself = z;
    sized = λ e he s i j hi hj.
        subst (Sized (2 ^ (e + (k + 1)))) (sym (whole e he s i j hi hj t)) (relax_sized e he s i j hi hj);
    through = λ s i j m hi hj hm.
        let th = turn_through n k (zone_of n ys) kl (b.through s) (no_larger_of (sym (zero_is (b.itself k kl)))) in
        let f : (a c : ℕ) → a ≤ n → c ≤ n → zone_of n zs a c ≡ relax k (zone_of n ys) a c =
        λ a c ha hc. whole 53 (omega arith) s a c ha hc t in
        rw (f i j hi hj, f i m hi (omega arith), f m j (omega arith) hj) (th i j m hi hj (omega arith));
  }

  -- a number below itself: there are no levels
  pub begun_empty : (hi i : ℕ) → Turned n k 0 hi (zone_of n ys) (zone_of n zs) → i ≤ n → cell n zs i i <ℤ pos 0 →
      TurnsFar n xs false zs
  begun_empty hi i t il neg =
      let same : SameLevels n (zone_of n xs) (zone_of n zs) = λ x. let u = b.levels x in
      let v = turned_same n k 0 hi (zone_of n ys) (zone_of n zs) t kl x in (λ p. v.0 (u.0 p), λ p. u.1 (v.1 p)) in
      record {
        levels = same;
        smaller = λ i j hi' hj. no_larger_trans (zone_of n zs i j) (zone_of n ys i j) (zone_of n xs i j)
            (turned_smaller n k 0 hi (zone_of n ys) (zone_of n zs) t i j hi' hj) (b.smaller i j hi' hj);
        closed = λ e. absurd (false≢true e);
        sized = λ e. absurd (false≢true e);
        empty = λ _ x p. below_itself (cell n zs i i) neg (subst (Holds (zone_of n zs i i)) (difference_same x i)
            (((same x).0 p).holds i i il il));
      }

pub begun_all : (n : ℕ) (xs ys : List ℤ) → n ≤ 8 → Begun n (n + 1) xs ys → TurnsFar n xs true ys
begun_all n xs ys small b = record {
  levels = b.levels;
  smaller = b.smaller;
  closed = λ _ s. record {
    itself = λ i hi. zero_is (b.itself i hi);
    through =
        λ i j k hi hj hk. b.through s i j k hi hj (omega arith);
  };
  sized = λ _ e he s i j hi hj.
      let p : e + (n + 1) ≤ e + 9 = omega arith in
      sized_more (2 ^ (e + (n + 1))) (2 ^ (e + 9)) (zone_of n ys i j) (pow_mono p) (b.sized e he s i j hi hj);
  empty = λ e. absurd (true≢false e);
}
