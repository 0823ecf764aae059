-- A step in lent numbers: bounds that grow between two closings. Assumes nothing.
use Rattle.std.proofs.Common.{◌≡◌, ℕ, zero, suc, ◌+◌, ◌^◌, ◌≤◌, cond, eqb, ◌≢◌, ◌⊎◌, List, ℤ, pos, negsuc, ◌+ℤ◌, ◌≤ℤ◌, None, sym, refl, ap, ◌∙◌, subst, inl, inr, ⊎_elim, arith, eq-eqb}
use Rattle.std.proofs.lemmas.Int.{ints}
use Rattle.std.proofs.lemmas.Bool.{cases_eq}
use Rattle.std.proofs.lemmas.Bool.Decides.{nat_tests}
use Rattle.refusal.proofs.Firsts.{each}
use Rattle.theory.specs.Bound.{Bound, at_most, Holds, NoLarger, sum, zero_bound}
use Rattle.theory.specs.Level.{Levels, difference, Moves}
use Rattle.theory.specs.Zone.{Zone, In, Empty, SameLevels, Canonical, widen}
use Rattle.theory.proofs.Bounds.{difference_is, difference_same, no_larger_trans, holds_larger}
use Rattle.theory.proofs.Reach.{some_levels}
use Rattle.theory.proofs.Track.{same_levels}
use Rattle.theory.proofs.Widen.{origin, origin_in, origin_moves, stays}
use Rattle.bounds.specs.Meaning.{bound_of, total_sum, Sized}
use Rattle.bounds.proofs.Laws.{sum_exact, sum_never_sharper, sized_sum, sized_more}
use Rattle.zones.specs.declared.kinds.Rate.{Rate}
use Rattle.zones.specs.Numbers.{cell, zone_of, no_levels, AllSized, closing_reach, Widens, FarForm, ClosesFar}
use Rattle.zones.specs.Checks.{rise_ok, fall_ok, rate_refused}
use Rattle.zones.specs.Change.{rise_of, fall_of, rates_of, step_reach, Roof, StepsFar}
use Rattle.zones.proofs.Checked.{rates_ok}
use Rattle.zones.proofs.Closing.{no_levels_cell, no_levels_empty, no_levels_sized, closes_none}
use Rattle.zones.proofs.Turning.{below_itself}
use Rattle.zones.proofs.Writing.{bound_is}

-- ---- sizes
-- a canonical zone with no level above h has no number farther from 0 than h
pub roof_sized : (h n : ℕ) (xs : List ℤ) → Canonical n (zone_of n xs) → Roof h n xs → AllSized h n xs
roof_sized h n xs ca ro i j hi hj = lower h (z i j) (z j i)
    (subst (λ v. NoLarger v (sum (z i j) (z j i))) (ca.closed.itself i hi) (ca.closed.through i i j hi hi hj))
    (upper i j hi hj) (upper j i hj hi)
  where
    z : Zone
    z a b = zone_of n xs a b

    above : (h : ℕ) (ij i0 oj : Bound) → NoLarger ij (sum i0 oj) → NoLarger oj zero_bound →
        NoLarger i0 (at_most (pos h)) → NoLarger ij (at_most (pos h))
    above h ij i0 oj a b c = grind (arith, ints)

    upper : (a b : ℕ) → a ≤ n → b ≤ n → NoLarger (zone_of n xs a b) (at_most (pos h))
    upper a b ha hb = above h (zone_of n xs a b) (zone_of n xs a 0) (zone_of n xs 0 b)
        (ca.closed.through a b 0 ha hb (omega arith)) (ca.floored b hb) (ro a ha)

    lower : (h : ℕ) (ij ji : Bound) → NoLarger zero_bound (sum ij ji) → NoLarger ij (at_most (pos h)) →
        NoLarger ji (at_most (pos h)) → Sized h ij
    lower h ij ji a b c = grind (arith, ints)

-- what a closing leaves of numbers within reach
abbrev closed_reach : ℕ
closed_reach = 2 ^ 52

-- ---- rates
pub rise_within : (n : ℕ) (rs : List Rate) → rate_refused n rs ≡ None → (i : ℕ) → i ≤ n → rise_of rs i ≤ 10000
rise_within n rs e zero hi = omega arith
rise_within n rs e (suc i) hi =
    let ok = rates_ok n rs e in let l = ok.0 in
    let t = each rise_ok 0 rs i (record { rise = 0; fall = 0 }) ok.1 (omega arith) in grind (arith, nat_tests)

pub fall_within : (n : ℕ) (rs : List Rate) → rate_refused n rs ≡ None → (i : ℕ) → i ≤ n → fall_of rs i ≤ 10000
fall_within n rs e zero hi = omega arith
fall_within n rs e (suc i) hi =
    let ok = rates_ok n rs e in let l = ok.0 in
    let t = each fall_ok 0 rs i (record { rise = 0; fall = 0 }) ok.2 (omega arith) in grind (arith, nat_tests)

-- ---- bounds that grow, and the closing after them
grown_holds : (b : Bound) (m r f : ℕ) (d e : ℤ) → Holds b d → m ≡ r + f → e ≤ℤ (d +ℤ pos (r + f)) →
    Holds (sum b (at_most (pos m))) e
grown_holds b m r f d e h q l = grind (arith, ints)

module _ (n : ℕ) (rs : List Rate) (xs ys zs : List ℤ) (ok : rate_refused n rs ≡ None)
    (w : Widens n (λ i j. rise_of rs i + fall_of rs j) xs ys) (c : ClosesFar n ys zs) where
  at_itself : (i : ℕ) → i ≤ n → zone_of n ys i i ≡ zone_of n xs i i
  at_itself i hi = ap bound_of (w i i hi hi ∙ ap (λ t. cond t (cell n xs i i)
      (total_sum (cell n xs i i) (pos (rise_of rs i + fall_of rs i)))) (eq-eqb i i refl))

  at_other : (i j : ℕ) → i ≤ n → j ≤ n → i ≢ j → zone_of n ys i j ≡ bound_of
      (total_sum (cell n xs i j) (pos (rise_of rs i + fall_of rs j)))
  at_other i j hi hj ne = ap bound_of (let h = w i j hi hj in grind (arith, nat_tests))

  growth_is : (i j : ℕ) → i ≤ n → j ≤ n → bound_of (pos (rise_of rs i + fall_of rs j)) ≡ at_most
      (pos (rise_of rs i + fall_of rs j))
  growth_is i j hi hj = bound_is _ (let p = rise_within n rs ok i hi in let q = fall_within n rs ok j hj in omega (arith, ints))

  -- no level is lost
  widened_holds : (x y : Levels) → In n (zone_of n xs) x → Moves n (rates_of rs) x y → (i j : ℕ) → i ≤ n → j ≤ n →
      Holds (zone_of n ys i j) (difference y i j)
  widened_holds x y p m i j hi hj = ⊎_elim
      (λ e.
      let h : Holds (zone_of n xs i i) (pos 0) = subst (Holds (zone_of n xs i i)) (difference_same x i) (p.holds i i hi hi) in
      subst (λ k. Holds (zone_of n ys i k) (difference y i k)) e (rw (at_itself i hi, difference_same y i) h))
      (λ ne.
      let a = p.holds i j hi hj in let b = m.rises i hi in let d = m.falls j hj in
      let e = difference_is x i j in let f = difference_is y i j in
      let g : Holds (sum (zone_of n xs i j) (at_most (pos (rise_of rs i + fall_of rs j)))) (difference y i j) =
      grown_holds (zone_of n xs i j) (rise_of rs i + fall_of rs j) (rise_of rs i) (fall_of rs j) (difference x i j)
      (difference y i j) a refl (omega (arith, ints)) in
      rw (at_other i j hi hj ne) (holds_larger _ _ (difference y i j)
      (subst (λ v. NoLarger (sum (zone_of n xs i j) v) (bound_of
      (total_sum (cell n xs i j) (pos (rise_of rs i + fall_of rs j))))) (growth_is i j hi hj)
      (sum_never_sharper (cell n xs i j) (pos (rise_of rs i + fall_of rs j)))) g))
      (cases_eq i j)

  widened_sized : AllSized closed_reach n xs → AllSized closing_reach n ys
  widened_sized s i j hi hj = ⊎_elim
      (λ e. subst (λ k. Sized closing_reach (zone_of n ys i k)) e (subst (Sized closing_reach) (sym (at_itself i hi))
      (sized_more closed_reach closing_reach (zone_of n xs i i) (omega arith) (s i i hi hi))))
      (λ ne.
      let p = rise_within n rs ok i hi in let q = fall_within n rs ok j hj in
      subst (Sized closing_reach) (sym (at_other i j hi hj ne ∙ sum_exact closed_reach 20000 (cell n xs i j)
      (pos (rise_of rs i + fall_of rs j)) (omega arith) (s i j hi hj)
      (subst (Sized 20000) (sym (growth_is i j hi hj)) (omega (arith, ints), omega (arith, ints)))))
      (sized_more (closed_reach + 20000) closing_reach _ (omega arith) (sized_sum closed_reach 20000 (zone_of n xs i j)
      (bound_of (pos (rise_of rs i + fall_of rs j))) (s i j hi hj)
      (subst (Sized 20000) (sym (growth_is i j hi hj)) (omega (arith, ints), omega (arith, ints))))))
      (cases_eq i j)

  -- from a canonical zone of moderate size each sum is exact
  module _ (ca : Canonical n (zone_of n xs)) (s : AllSized closed_reach n xs) where
    exact_at : (i j : ℕ) → i ≤ n → j ≤ n → zone_of n ys i j ≡ widen (rates_of rs) (zone_of n xs) i j
    exact_at i j hi hj = ⊎_elim
        (λ e. subst (λ k. zone_of n ys i k ≡ widen (rates_of rs) (zone_of n xs) i k) e (at_itself i hi
        ∙ ca.closed.itself i hi ∙ sym (ap (λ t. cond t zero_bound
        (sum (zone_of n xs i i) (at_most (pos (rise_of rs i + fall_of rs i))))) (eq-eqb i i refl))))
        (λ ne.
        let p = rise_within n rs ok i hi in let q = fall_within n rs ok j hj in
        at_other i j hi hj ne
        ∙ sum_exact closed_reach 20000 (cell n xs i j) (pos (rise_of rs i + fall_of rs j)) (omega arith) (s i j hi hj)
        (subst (Sized 20000) (sym (growth_is i j hi hj)) (omega (arith, ints), omega (arith, ints)))
        ∙ ap (sum (zone_of n xs i j)) (growth_is i j hi hj)
        ∙ sym (widen_other i j ne))
        (cases_eq i j)
      where
        widen_other : (a b : ℕ) → a ≢ b → widen (rates_of rs) (zone_of n xs) a b ≡ sum (zone_of n xs a b)
            (at_most (pos (rise_of rs a + fall_of rs b)))
        widen_other a b ne = grind (arith, nat_tests)

    as_widened : SameLevels n (widen (rates_of rs) (zone_of n xs)) (zone_of n ys)
    as_widened = same_levels n (widen (rates_of rs) (zone_of n xs)) (zone_of n ys) exact_at

    -- a step never empties a zone
    not_empty : FarForm n ys zs → ((i j : ℕ) → i ≤ n → j ≤ n → NoLarger (zone_of n zs i j) (zone_of n ys i j))
        × Canonical n (zone_of n zs)
    not_empty (inl e) =
        let l = stays n (rates_of rs) (zone_of n xs) ca in
        absurd (no_levels_empty n l.0 (subst (λ vs. In n (zone_of n vs) l.0) e
        ((c.levels l.0).0 ((as_widened l.0).0 l.1))))
    not_empty (inr (sm, k)) = (sm, k (widened_sized s))

    step_exact : Canonical n (zone_of n zs) × ((y : Levels) →
        In n (zone_of n zs) y → (x : Levels) × In n (zone_of n xs) x × Moves n (rates_of rs) x y)
    step_exact = (
      (not_empty c.form).1,
      λ y p. let q = (as_widened y).1 ((c.levels y).1 p) in (
        origin n (rates_of rs) (zone_of n xs) y,
        origin_in n
            (rates_of rs) (zone_of n xs) ca y q,
        origin_moves n (rates_of rs) (zone_of n xs) ca y q,
      ),
    )

    step_roof : (h : ℕ) → Roof h n xs → Roof (h + 10000) n zs
    step_roof h ro i hi =
        no_larger_trans (zone_of n zs i 0) (zone_of n ys i 0) (at_most (pos (h + 10000)))
        ((not_empty c.form).0 i 0 hi (omega arith))
        (subst (λ v. NoLarger v (at_most (pos (h + 10000)))) (sym (exact_at i 0 hi (omega arith))) (let a = ro i hi in
        let p = rise_within n rs ok i hi in raised (zone_of n xs i 0) i a p))
      where
        raised : (b : Bound) (a : ℕ) → NoLarger b (at_most (pos h)) → rise_of rs a ≤ 10000 →
            NoLarger (cond (eqb a 0) zero_bound (sum b (at_most (pos (rise_of rs a + 0))))) (at_most (pos (h + 10000)))
        raised b a l p = grind (arith, ints, nat_tests)

  none_left : xs ≡ no_levels n → zs ≡ no_levels n
  none_left e =
      let s : AllSized closed_reach n xs =
      subst (AllSized closed_reach n) (sym e) (no_levels_sized n closed_reach (omega arith)) in
      let own : cell n xs 0 0 ≡ negsuc 0 = subst (λ vs. cell n vs 0 0 ≡ negsuc 0) (sym e)
      (no_levels_cell n 0 0 (omega arith) (omega arith)) in
      let none_in : Empty n (zone_of n ys) = λ x p. below_itself (cell n xs 0 0) (omega (arith, ints))
      (subst (λ b. Holds b (pos 0)) (at_itself 0 (omega arith))
      (subst (Holds (zone_of n ys 0 0)) (difference_same x 0) (p.holds 0 0 (omega arith) (omega arith)))) in
      closes_none n ys zs c (widened_sized s) none_in

  lost_none : (x y : Levels) → In n (zone_of n xs) x → Moves n (rates_of rs) x y → In n (zone_of n zs) y
  lost_none x y p m = (c.levels y).0 record { datum = m.datum; holds = widened_holds x y p m }

-- ---- the step: a closing, bounds that grow, and another closing
module _ (n : ℕ) (rs : List Rate) (xs ws ys zs : List ℤ) (ok : rate_refused n rs ≡ None) (b : ClosesFar n xs ws)
    (w : Widens n (λ i j. rise_of rs i + fall_of rs j) ws ys) (c : ClosesFar n ys zs) where
  -- what the first closing leaves of numbers within reach
  module _ (s : AllSized step_reach n xs) where
    closed_sized : AllSized closed_reach n ws
    closed_sized = b.sized 43 (omega arith) s

    within_limit : AllSized closing_reach n xs
    within_limit i j hi hj = sized_more step_reach closing_reach (zone_of n xs i j) (omega arith) (s i j hi hj)

    exact_by :
        FarForm n xs ws →
        (((zs ≡ no_levels n) × Empty n (zone_of n xs)) ⊎ Canonical n (zone_of n zs))
        × ((y : Levels) → In n (zone_of n zs) y → (x : Levels) × In n (zone_of n xs) x × Moves n (rates_of rs) x y)
    exact_by (inl e) =
        let f : zs ≡ no_levels n = none_left n rs ws ys zs ok w c e in (
          inl (f, λ x p. no_levels_empty n x (subst (λ vs. In n (zone_of n vs) x) e ((b.levels x).0 p))),
          λ y p. absurd (no_levels_empty n y (subst (λ vs. In n (zone_of n vs) y) f p)),
        )
    exact_by (inr (sm, ca)) =
        let d = step_exact n rs ws ys zs ok w c (ca within_limit) closed_sized in (
          inr d.0,
          λ y p. let q = d.1 y p in (q.0, (b.levels q.0).1 q.1, q.2),
        )

  -- from a canonical zone
  roof_by :
      FarForm n xs ws →
      (h : ℕ) → h ≤ step_reach → Canonical n (zone_of n xs) → Roof h n xs → Canonical n (zone_of n zs) × Roof (h + 10000) n zs
  roof_by (inl e) h le ca ro =
      let l = some_levels n (zone_of n xs) ca in
      absurd (no_levels_empty n l.0 (subst (λ vs. In n (zone_of n vs) l.0) e ((b.levels l.0).0 l.1)))
  roof_by (inr (sm, k)) h le ca ro =
      let s : AllSized step_reach n xs = λ i j hi hj. sized_more h step_reach (zone_of n xs i j) le
      (roof_sized h n xs ca ro i j hi hj) in
      let d : Canonical n (zone_of n ws) = k (within_limit s) in
      let r : Roof h n ws = λ i hi. no_larger_trans (zone_of n ws i 0) (zone_of n xs i 0) (at_most (pos h))
      (sm i 0 hi (omega arith)) (ro i hi) in (
        (step_exact n rs ws ys zs ok w c d (closed_sized s)).0,
        step_roof n rs ws ys zs ok w c d (closed_sized s) h r,
      )

  pub steps : StepsFar n rs xs zs
  steps = record {
    sound = λ x y p m. lost_none n rs ws ys zs ok w c x y ((b.levels x).0 p) m;
    exact = λ s. exact_by s b.form;
    roof = roof_by b.form;
    empty = λ e. none_left n rs ws ys zs ok w c
        (closes_none n xs ws b (subst (AllSized closing_reach n) (sym e) (no_levels_sized n closing_reach (omega arith)))
        (λ x p. no_levels_empty n x (subst (λ vs. In n (zone_of n vs) x) e p)));
  }
