-- What the zones of a table say together, in terms of all histories that an observer tracks. Assumes nothing.
use Rattle.std.proofs.Common.{◌≡◌, ℕ, zero, suc, ◌+◌, ◌*◌, ◌^◌, ◌<◌, ◌≤◌, Bool, true, false, cond, ◌||◌, ◌⊎◌, List, length, get_or, ℤ, pos, neg_ℤ, ◌≤ℤ◌, Some, None, Decides, Option, sym, refl, ap, ◌∙◌, subst, inl, inr, ⊎_elim, arith}
use lib.Signed.{lt_z}
use Rattle.std.proofs.ByRecursion.{All-from_get_or, All-get_or}
use Rattle.std.proofs.lemmas.Int.{ints}
use Rattle.std.proofs.Math.Bool.{and_comm}
use Rattle.std.proofs.lemmas.Bool.Decides.{Decides-below_and}
use Rattle.std.proofs.lemmas.Bool.{both_ways, cases_eq, true≢false}
use Rattle.std.specs.Int.{int_max}
use Rattle.std.specs.Option.{option_map}
use Rattle.theory.specs.Bound.{Bound, none, at_most, Holds}
use Rattle.theory.specs.Level.{Levels, Ranges, difference}
use Rattle.theory.specs.Zone.{Canonical}
use Rattle.theory.specs.History as history
use Rattle.theory.specs.History.{History, AtMost}
use Rattle.theory.specs.Possible.{Explained, AlwaysBlamed}
use Rattle.theory.specs.End.{UpperEnd, ShowsUpper}
use Rattle.theory.proofs.Bounds.{holds_larger}
use Rattle.theory.proofs.Reach.{reached, unbounded, some_levels}
use Rattle.theory.proofs.Trajectories.{same_history}
use Rattle.bounds.specs.Meaning.{bound_of, Sized}
use Rattle.bounds.proofs.Laws.{le_no_larger}
use Rattle.zones.specs.Numbers.{cell, zone_of, TellsEmpty}
use Rattle.zones.specs.Change.{Roof}
use Rattle.zones.proofs.Stepping.{roof_sized}
use Rattle.zones.proofs.Closing.{tells_empty}
use Rattle.faults.specs.declared.set.FaultSet.{FaultSet}
use Rattle.faults.specs.Sets.{gauge_set, Few, Lists}
use Rattle.faults.proofs.Represent.{of_listed_sets, few_gauges}
use Rattle.table.specs.Parts.{part}
use Rattle.table.specs.Tracks.{AtRest, Follows}
use Rattle.shown.proofs.Zones.{larger_none}
use Rattle.shown.specs.Computed.{lacks_levels, without_levels, larger, largest, all_without, in_each}

-- either of two, where the first fails
or_other : (a b : Bool) → Decides (a || b) (a ≡ false → b ≡ true)
or_other true b = (λ e f. absurd (true≢false f), λ h. refl)
or_other false b = (λ e f. e, λ h. h refl)

max_z_one : (a b : ℤ) → (int_max a b ≡ a) ⊎ (int_max a b ≡ b)
max_z_one a b = grind (arith, ints)

sized_floor : (h : ℕ) (v : ℤ) → h ≤ 2 ^ 62 → Sized h (bound_of v) → neg_ℤ (pos (2 ^ 62)) ≤ℤ v
unfolding bound_of
sized_floor h v l s = grind (arith, ints)

le_refl : (a : ℤ) → a ≤ℤ a
le_refl a = grind (arith, ints)

max_right : (a b : ℤ) → b ≤ℤ int_max a b
max_right a b = grind (arith, ints)

max_left : (c a b : ℤ) → c ≤ℤ a → c ≤ℤ int_max a b
max_left c a b h = grind (arith, ints)

-- the larger of two is one of them
of_max : (P : ℤ → Type 0) (a b : ℤ) → P a → P b → P (int_max a b)
of_max P a b p q = go (max_z_one a b)
  where
    go : (int_max a b ≡ a) ⊎ (int_max a b ≡ b) → P (int_max a b)
    go (inl e) = subst P (sym e) p
    go (inr e) = subst P (sym e) q

-- a zone says whether its set has a history
abbrev ToldOf : (n steps : ℕ) → Ranges → List history.Event → history.FaultSet → List ℤ → Bool → Type 0
ToldOf n steps start hs w xs b =
    ((b ≡ true) × ((x : Levels) → History n start w hs x → ⊥))
    ⊎ ((b ≡ false) × Canonical n (zone_of n xs) × Roof (100000 + 10000 * steps) n xs)

-- the first number is the datum's own
datum : (n : ℕ) (xs : List ℤ) → lacks_levels xs ≡ lt_z (cell n xs 0 0) (pos 0)
unfolding cell
datum n xs = let first : 0 ≡ 0 * (n + 1) + 0 = omega arith in ap (λ k. lt_z (get_or xs k (pos 0)) (pos 0)) first

told_of : (n k : ℕ) (start : Ranges) (w : history.FaultSet) (hs : List history.Event) (xs : List ℤ) →
    Follows n k start w hs xs → ToldOf n k start hs w xs (lacks_levels xs)
told_of n k start w hs xs f = go f.rest
  where
    tells : TellsEmpty n xs (lacks_levels xs)
    tells = tells_empty n xs (lacks_levels xs) (datum n xs)

    go : AtRest n k xs → ToldOf n k start hs w xs (lacks_levels xs)
    go (inl e) = inl (tells.none e, λ x h. tells.empty (tells.none e) x (f.kept.sound x h))
    go (inr (ca, ro)) = inr (tells.kept ca, ca, ro)

-- ---- the largest number, as far as the zones below m
-- what it says of them: nothing has levels, or it stands in one that has, and in no other is a larger one
abbrev Tops : (n : ℕ) → List ℤ → (i j m : ℕ) → Option ℤ → Type 0
Tops n xs i j m None = (k : ℕ) → k < m → without_levels n xs k ≡ true
Tops n xs i j m (Some v) =
    ((k : ℕ) × (k < m) × (without_levels n xs k ≡ false) × (cell n (part n k xs) i j ≡ v))
    × ((k : ℕ) → k < m → without_levels n xs k ≡ false → cell n (part n k xs) i j ≤ℤ v)

module _ (n : ℕ) (xs : List ℤ) (i j : ℕ) where
  -- one zone without levels more, and one with levels
  tops_skip : (m : ℕ) (o : Option ℤ) → without_levels n xs m ≡ true → Tops n xs i j m o → Tops n xs i j (suc m) o
  tops_skip m None e t = λ k h. ⊎_elim (λ s. subst (λ q. without_levels n xs q ≡ true) (sym s) e) (λ ne. t k (omega arith))
      (cases_eq k m)
  tops_skip m (Some v) e ((k, l, f, is), below) = (
    (k, omega arith, f, is),
    λ q h g. ⊎_elim (λ s. absurd (both_ways (without_levels n xs m) (subst (λ p. without_levels n xs p ≡ false) s g) e))
        (λ ne. below q (omega arith) g) (cases_eq q m),
  )

  tops_more : (m : ℕ) (o : Option ℤ) → without_levels n xs m ≡ false → Tops n xs i j m o →
      Tops n xs i j (suc m) (larger o (Some (cell n (part n m xs) i j)))
  tops_more m None e t = (
    (m, omega arith, e, refl),
    λ q h g. ⊎_elim (λ s. subst (λ p. cell n (part n p xs) i j ≤ℤ cell n (part n m xs) i j) (sym s) (le_refl (cell n (part n m xs) i j)))
        (λ ne. absurd (both_ways (without_levels n xs q) g (t q (omega arith)))) (cases_eq q m),
  )
  tops_more m (Some v) e ((k, l, f, is), below) = (
    of_max (λ u. (p : ℕ) × (p < suc m) × (without_levels n xs p ≡ false) × (cell n (part n p xs) i j ≡ u)) v
        (cell n (part n m xs) i j) (k, omega arith, f, is) (m, omega arith, e, refl),
    λ q h g. ⊎_elim
        (λ s. subst (λ p. cell n (part n p xs) i j ≤ℤ int_max v (cell n (part n m xs) i j)) (sym s) (max_right v (cell n (part n m xs) i j)))
        (λ ne. max_left _ v (cell n (part n m xs) i j) (below q (omega arith) g)) (cases_eq q m),
  )

  pub tops : (m : ℕ) → Tops n xs i j m (largest n xs i j m)
  tops zero = λ k h. absurd (omega arith)
  tops (suc m) = go (without_levels n xs m) refl (tops m)
    where
      go : (b : Bool) → without_levels n xs m ≡ b → Tops n xs i j m (largest n xs i j m) →
          Tops n xs i j (suc m) (larger (largest n xs i j m) (cond (without_levels n xs m) None (Some (cell n (part n m xs) i j))))
      go true e t = rw e (subst (Tops n xs i j (suc m)) (sym (larger_none (largest n xs i j m))) (tops_skip m (largest n xs i j m) e t))
      go false e t = rw e (tops_more m (largest n xs i j m) e t)

-- ---- over all sets of at most f of g gauges
module _ (n g f steps : ℕ) (start : Ranges) (hs : List history.Event) (sets : List FaultSet) (xs : List ℤ)
    (listed : Lists f g sets)
    (follows : (k : ℕ) → k < length sets →
    Follows n steps start (gauge_set (get_or sets k (record { bits = 0 }))) hs (part n k xs)) where
  abbrev set_at : ℕ → FaultSet
  set_at k = get_or sets k (record { bits = 0 })

  told_at : (k : ℕ) → k < length sets → ToldOf n steps start hs (gauge_set (set_at k)) (part n k xs) (without_levels n xs k)
  told_at k h = told_of n steps start (gauge_set (set_at k)) hs (part n k xs) (follows k h)

  few_at : (k : ℕ) → k < length sets → AtMost f g (gauge_set (set_at k))
  few_at k h = few_gauges f g (set_at k) (All-get_or (Few f g) sets k (record { bits = 0 }) h listed.sound)

  -- what holds in the histories of each listed set holds in all
  in_all : (P : history.FaultSet → Levels → Type 0) →
      ((w v : history.FaultSet) (x : Levels) → ((a : ℕ) → w a ≡ v a) → P w x → P v x) →
      ((k : ℕ) → k < length sets → (x : Levels) → History n start (gauge_set (set_at k)) hs x → P (gauge_set (set_at k)) x) →
      (v : history.FaultSet) → AtMost f g v → (x : Levels) → History n start v hs x → P v x
  in_all P same all v few =
      of_listed_sets (λ w. (x : Levels) → History n start w hs x → P w x)
      (λ w u e h x k. same w u x e (h x (same_history n start u w (λ a. sym (e a)) k))) f g sets listed
      (All-from_get_or (λ s. (x : Levels) → History n start (gauge_set s) hs x → P (gauge_set s) x) sets (record { bits = 0 }) all)
      v few

  -- a set with levels has its zone
  canonical_at : (k : ℕ) → k < length sets → without_levels n xs k ≡ false → Canonical n (zone_of n (part n k xs))
  canonical_at k h e = go (told_at k h)
    where
      go : ToldOf n steps start hs (gauge_set (get_or sets k (record { bits = 0 }))) (part n k xs) (without_levels n xs k) →
          Canonical n (zone_of n (part n k xs))
      go (inl (t, no_one)) = absurd (both_ways (without_levels n xs k) e t)
      go (inr (t, ca, ro)) = ca

  -- and no number in it is far from 0
  floor_at : steps ≤ 1000000 → (k : ℕ) → k < length sets → without_levels n xs k ≡ false → (i j : ℕ) → i ≤ n → j ≤ n →
      neg_ℤ (pos (2 ^ 62)) ≤ℤ cell n (part n k xs) i j
  floor_at few k h e i j hi hj = go (told_at k h)
    where
      go : ToldOf n steps start hs (gauge_set (get_or sets k (record { bits = 0 }))) (part n k xs) (without_levels n xs k) →
          neg_ℤ (pos (2 ^ 62)) ≤ℤ cell n (part n k xs) i j
      go (inl (t, no_one)) = absurd (both_ways (without_levels n xs k) e t)
      go (inr (t, ca, ro)) = sized_floor (100000 + 10000 * steps) (cell n (part n k xs) i j) (omega arith)
          (roof_sized (100000 + 10000 * steps) n (part n k xs) ca ro i j hi hj)

  pub largest_floor : steps ≤ 1000000 → (i j : ℕ) → i ≤ n → j ≤ n → (v : ℤ) → largest n xs i j (length sets) ≡ Some v →
      neg_ℤ (pos (2 ^ 62)) ≤ℤ v
  largest_floor few i j hi hj v e = go (subst (Tops n xs i j (length sets)) e (tops n xs i j (length sets)))
    where
      go : Tops n xs i j (length sets) (Some v) → neg_ℤ (pos (2 ^ 62)) ≤ℤ v
      go ((k, l, f, is), below) = subst (λ u. neg_ℤ (pos (2 ^ 62)) ≤ℤ u) is (floor_at few k l f i j hi hj)

  -- one without has no history
  nobody_at : (k : ℕ) → k < length sets → without_levels n xs k ≡ true → (x : Levels) →
      History n start (gauge_set (get_or sets k (record { bits = 0 }))) hs x → ⊥
  nobody_at k h e = go (told_at k h)
    where
      go : ToldOf n steps start hs (gauge_set (get_or sets k (record { bits = 0 }))) (part n k xs) (without_levels n xs k) → (x : Levels) →
          History n start (gauge_set (get_or sets k (record { bits = 0 }))) hs x → ⊥
      go (inl (t, no_one)) x p = no_one x p
      go (inr (t, ca, ro)) x p = both_ways (without_levels n xs k) t e

  module _ (i j : ℕ) (hi : i ≤ n) (hj : j ≤ n) where
    -- the largest number holds in all histories
    holds_all : (v : ℤ) → ((k : ℕ) → k < length sets → without_levels n xs k ≡ false → cell n (part n k xs) i j ≤ℤ v) →
        (x : Levels) → Explained n g f start hs x → Holds (bound_of v) (difference x i j)
    holds_all v below x p =
        in_all (λ w y. Holds (bound_of v) (difference y i j)) (λ w u y e h. h)
        (λ k h y q. at k h y q (without_levels n xs k) refl) p.faults p.few x p.history
      where
        at : (k : ℕ) → k < length sets → (y : Levels) → History n start (gauge_set (get_or sets k (record { bits = 0 }))) hs y →
            (b : Bool) → without_levels n xs k ≡ b → Holds (bound_of v) (difference y i j)
        at k h y q true e = absurd (nobody_at k h e y q)
        at k h y q false e =
            holds_larger (zone_of n (part n k xs) i j) (bound_of v) (difference y i j)
            (le_no_larger (cell n (part n k xs) i j) v (below k h e)) (((follows k h).kept.sound y q).holds i j hi hj)

    -- and is reached, or passed
    end_at : (b : Bound) (k : ℕ) → k < length sets → without_levels n xs k ≡ false → zone_of n (part n k xs) i j ≡ b →
        ((x : Levels) → Explained n g f start hs x → Holds b (difference x i j)) →
        UpperEnd (Explained n g f start hs) (λ x. difference x i j) b
    end_at none k h e is holds = λ c.
        let r = unbounded n (zone_of n (part n k xs)) i j (canonical_at k h e) hi hj is c in
        (r.0, record { faults = gauge_set (set_at k); few = few_at k h; history = (follows k h).kept.exact r.0 r.1 }, r.2)
    end_at (at_most c) k h e is holds =
        let r = reached n (zone_of n (part n k xs)) i j c (canonical_at k h e) hi hj is in
        record {
          holds = holds;
          reached = (r.0, record { faults = gauge_set (set_at k); few = few_at k h; history = (follows k h).kept.exact r.0 r.1 }, r.2);
        }

    pub shown_upper : ShowsUpper (Explained n g f start hs) (λ x. difference x i j) (option_map bound_of (largest n xs i j (length sets)))
    shown_upper = go (largest n xs i j (length sets)) (tops n xs i j (length sets))
      where
        go : (o : Option ℤ) → Tops n xs i j (length sets) o →
            ShowsUpper (Explained n g f start hs) (λ x. difference x i j) (option_map bound_of o)
        go None t = λ x p. in_all (λ w y. ⊥) (λ w u y e h. h) (λ k h y q. nobody_at k h (t k h) y q) p.faults p.few x p.history
        go (Some v) ((k, l, e, is), below) = end_at (bound_of v) k l e (ap bound_of is) (holds_all v below)

  -- ---- no history
  all_told : (m : ℕ) → Decides (all_without n xs m) ((k : ℕ) → k < m → without_levels n xs k ≡ true)
  all_told =
      Decides-below_and (without_levels n xs) (λ k. without_levels n xs k ≡ true) (all_without n xs) (λ k. (λ e. e, λ e. e)) refl
      (λ m. and_comm (all_without n xs m) (without_levels n xs m))

  pub none_told : Decides (all_without n xs (length sets)) ((x : Levels) → Explained n g f start hs x → ⊥)
  none_told =
      let d = all_told (length sets) in (
        λ e x p. in_all (λ w y. ⊥) (λ w u y s h. h) (λ k h y q. nobody_at k h (d.0 e k h) y q) p.faults p.few x p.history,
        λ never. d.1 (λ k h. gone never k h (without_levels n xs k) refl),
      )
    where
      gone : ((x : Levels) → Explained n g f start hs x → ⊥) → (k : ℕ) → k < length sets → (b : Bool) →
          without_levels n xs k ≡ b → without_levels n xs k ≡ true
      gone never k h true e = e
      gone never k h false e =
          let s = some_levels n (zone_of n (part n k xs)) (canonical_at k h e) in
          absurd (never s.0 record { faults = gauge_set (get_or sets k (record { bits = 0 })); few = few_at k h; history = (follows k h).kept.exact s.0 s.1 })

  -- ---- names
  module _ (a : ℕ) where
    each_told : (m : ℕ) → Decides (in_each n sets xs a m)
        ((k : ℕ) → k < m → without_levels n xs k ≡ false → gauge_set (get_or sets k (record { bits = 0 })) a ≡ true)
    each_told =
        Decides-below_and (λ k. without_levels n xs k || gauge_set (get_or sets k (record { bits = 0 })) a)
        (λ k. without_levels n xs k ≡ false → gauge_set (get_or sets k (record { bits = 0 })) a ≡ true) (in_each n sets xs a)
        (λ k. or_other (without_levels n xs k) (gauge_set (get_or sets k (record { bits = 0 })) a)) refl
        (λ m. and_comm (in_each n sets xs a m) _)

    pub blamed_told : Decides (in_each n sets xs a (length sets)) (AlwaysBlamed n g f start hs a)
    blamed_told =
        let d = each_told (length sets) in (
          λ e x p. in_all (λ w y. w a ≡ true) (λ w u y s h. sym (s a) ∙ h)
              (λ k h y q. has (d.0 e) k h y q (without_levels n xs k) refl) p.faults p.few x p.history,
          λ always. d.1 (λ k h t. let s = some_levels n (zone_of n (part n k xs)) (canonical_at k h t) in
              always s.0 record { faults = gauge_set (get_or sets k (record { bits = 0 })); few = few_at k h; history = (follows k h).kept.exact s.0 s.1 }),
        )
      where
        has : ((k : ℕ) → k < length sets → without_levels n xs k ≡ false → gauge_set (get_or sets k (record { bits = 0 })) a ≡ true) →
            (k : ℕ) → k < length sets → (y : Levels) → History n start (gauge_set (get_or sets k (record { bits = 0 }))) hs y →
            (b : Bool) → without_levels n xs k ≡ b → gauge_set (get_or sets k (record { bits = 0 })) a ≡ true
        has all k h y q true e = absurd (nobody_at k h e y q)
        has all k h y q false e = all k h e
