-- What is computed over lists of bounds is kept, for every list of events. Assumes nothing.
use Rattle.std.proofs.Common.{◌≡◌, ℕ, zero, suc, ◌+◌, ◌*◌, ◌/◌, ◌%◌, ◌<◌, ◌≤◌, Bool, true, false, cond, ◌||◌, ◌⊎◌, List, [], ◌∷◌, get_or, negsuc, Decides, sym, refl, ap, ◌∙◌, ap₂, inl, inr, arith}
use borrow.Author.Tests.{clash}
use Rattle.std.proofs.lemmas.Nat.{mul-add-lt, div-mul-add, mod-mul-add}
use Rattle.std.proofs.lemmas.List.FromFn.{get_or-map-range_with_len}
use Rattle.theory.specs.Bound.{Bound, none, at_most, NoLarger, zero_bound, negative}
use Rattle.theory.specs.Level.{Ranges, Ordered, Rates}
use Rattle.theory.specs.Zone.{Zone, Empty, SameLevels, Floored, Canonical, Tame, first_zone, widen, floor}
use Rattle.theory.specs.Zone.{relax, relaxed, close}
use Rattle.theory.specs.History.{Reading, meet_reading, Event, step, reads, Placed, FaultSet}
use Rattle.theory.specs.Computed.{bounds_of, zone_in, turns, contradicts, no_levels, is_empty, closed_bounds, zone_after}
use Rattle.theory.specs.Promise.{Kept, AlwaysKept}
use Rattle.theory.proofs.Bounds.{no_larger_trans, no_larger_of, not_negative}
use Rattle.theory.proofs.Tops.{before_or}
use Rattle.theory.proofs.Reach.{some_levels}
use Rattle.theory.proofs.Meet.{reading_smaller, meeting_reading, floor_floored, first}
use Rattle.theory.proofs.Close.{negative_empty, tame_closed, relaxed_same, close_floored}
use Rattle.theory.proofs.Widen.{widening, step_tame}
use Rattle.theory.proofs.Keep.{kept_start, kept_step, kept_reading, kept_blamed, kept_empty}

-- ---- a zone and its list
pub in_bounds : (n : ℕ) (z : Zone) (i j : ℕ) → i ≤ n → j ≤ n → zone_in n (bounds_of n z) i j ≡ z i j
in_bounds n z i j hi hj =
    let hi' : i < suc n = omega arith in let hj' : j < suc n = omega arith in
    get_or-map-range_with_len (λ p. z (p / suc n) (p % suc n)) 0 (suc n * suc n) (i * suc n + j) (i * suc n + j) none
    (mul-add-lt i (suc n) j (suc n) hi' hj') (omega arith)
    ∙ ap₂ z (div-mul-add i (suc n) j hj') (mod-mul-add i (suc n) j hj')

-- zones with the same bounds as far as n
abbrev pub Same : ℕ → Zone → Zone → Type 0
Same n z y = (i j : ℕ) → i ≤ n → j ≤ n → y i j ≡ z i j

pub same_levels : (n : ℕ) (z y : Zone) → Same n z y → SameLevels n z y
same_levels n z y e x = (
  λ p. record { datum = p.datum; holds = λ i j hi hj. rw (e i j hi hj) (p.holds i j hi hj) },
  λ p. record { datum = p.datum; holds = λ i j hi hj. rw (e i j hi hj) at (p.holds i j hi hj) },
)

pub same_canonical : (n : ℕ) (z y : Zone) → Same n z y → Canonical n z → Canonical n y
same_canonical n z y e c = record {
  closed = record {
    itself = λ i hi. e i i hi hi ∙ c.closed.itself i hi;
    through = λ i j k hi hj hk. rw (e i j hi hj, e i k hi hk, e k j hk hj) (c.closed.through i j k hi hj hk);
  };
  floored = λ i hi. rw (e 0 i (omega arith) hi) (c.floored i hi);
}

same_relaxed : (n : ℕ) (z y : Zone) → Same n z y → (k : ℕ) → k ≤ suc n → Same n (relaxed k z) (relaxed k y)
same_relaxed n z y e zero h i j hi hj = e i j hi hj
same_relaxed n z y e (suc k) h i j hi hj =
    let r = same_relaxed n z y e k (omega arith) in let hk : k ≤ n = omega arith in rw (r i j hi hj, r i k hi hk, r k j hk hj)

same_turns : (n : ℕ) (xs : List Bound) (k : ℕ) → k ≤ suc n → Same n (relaxed k (zone_in n xs)) (zone_in n (turns n k xs))
same_turns n xs zero h i j hi hj = refl
same_turns n xs (suc k) h i j hi hj =
    let r = same_turns n xs k (omega arith) in let hk : k ≤ n = omega arith in
    in_bounds n (relax k (zone_in n (turns n k xs))) i j hi hj ∙ rw (r i j hi hj, r i k hi hk, r k j hk hj)

-- the turns over a list are the closing of its zone
same_closed : (n : ℕ) (z : Zone) → Same n (close n z) (zone_in n (turns n (suc n) (bounds_of n z)))
same_closed n z i j hi hj =
    same_turns n (bounds_of n z) (suc n) (omega arith) i j hi hj
    ∙ same_relaxed n z (zone_in n (bounds_of n z)) (in_bounds n z) (suc n) (omega arith) i j hi hj

-- ---- what is_empty and contradicts tell
-- a list tells of itself whether it has levels, and is canonical where it has
abbrev pub Told : ℕ → List Bound → Type 0
Told n xs = ((is_empty xs ≡ false) × Canonical n (zone_in n xs)) ⊎ ((is_empty xs ≡ true) × Empty n (zone_in n xs))

first_place : (n : ℕ) (xs : List Bound) → zone_in n xs 0 0 ≡ get_or xs 0 none
first_place n xs = ap (λ p. get_or xs p none) (omega arith)

pub canonical_told : (n : ℕ) (xs : List Bound) → Canonical n (zone_in n xs) → Told n xs
canonical_told n xs c = inl (ap negative (sym (first_place n xs) ∙ c.closed.itself 0 (omega arith)), c)

no_levels_told : (n : ℕ) → Told n (no_levels n)
no_levels_told n =
    let b = in_bounds n (λ i j. at_most (negsuc 0)) 0 0 (omega arith) (omega arith) in
    inr (
      ap negative (sym (first_place n (no_levels n)) ∙ b),
      negative_empty n (zone_in n (no_levels n)) 0 (omega arith)
          (ap negative b),
    )

either_true : (a b : Bool) → (a || b) ≡ true → (a ≡ true) ⊎ (b ≡ true)
either_true true b e = inl refl
either_true false b e = inr e

neither_true : (a b : Bool) → (a || b) ≡ false → (a ≡ false) × (b ≡ false)
neither_true true b e = absurd (clash (sym e))
neither_true false b e = (refl, e)

contradicts_empty : (n m : ℕ) (xs : List Bound) → m ≤ suc n → contradicts n m xs ≡ true → Empty n (zone_in n xs)
contradicts_empty n zero xs h e = absurd (clash e)
contradicts_empty n (suc m) xs h e = go (either_true (negative (zone_in n xs m m)) (contradicts n m xs) e)
    (contradicts_empty n m xs (omega arith))
  where
    go : (negative (zone_in n xs m m) ≡ true) ⊎ (contradicts n m xs ≡ true) → (contradicts n m xs ≡ true →
        Empty n (zone_in n xs)) → Empty n (zone_in n xs)
    go (inl f) ih = negative_empty n (zone_in n xs) m (omega arith) f
    go (inr f) ih = ih f

not_contradicts : (n m : ℕ) (xs : List Bound) → contradicts n m xs ≡ false → (i : ℕ) → i < m →
    NoLarger zero_bound (zone_in n xs i i)
not_contradicts n zero xs e i h = absurd (omega arith)
not_contradicts n (suc m) xs e i h = go (before_or i m h) (neither_true (negative (zone_in n xs m m))
    (contradicts n m xs) e) (not_contradicts n m xs)
  where
    go : (i ≡ m) ⊎ (i < m) → (negative (zone_in n xs m m) ≡ false)
        × (contradicts n m xs ≡ false) → (contradicts n m xs ≡ false → (i : ℕ) → i < m →
        NoLarger zero_bound (zone_in n xs i i)) → NoLarger zero_bound (zone_in n xs i i)
    go (inl f) q ih = rw f (not_negative (zone_in n xs m m) q.0)
    go (inr l) q ih = ih q.1 i l

-- ---- to close a list
module _ (n : ℕ) (z : Zone) (ta : Tame n z) (fl : Floored n z) where
  closed_by : (t : Bool) → contradicts n (suc n) (turns n (suc n) (bounds_of n z)) ≡ t →
      Told n (cond t (no_levels n) (turns n (suc n) (bounds_of n z)))
      × SameLevels n z (zone_in n (cond t (no_levels n) (turns n (suc n) (bounds_of n z))))
  closed_by true e =
      let xs : List Bound = turns n (suc n) (bounds_of n z) in
      let none_in : Empty n z = λ x p. contradicts_empty n (suc n) xs (omega arith) e x
      ((same_levels n (close n z) (zone_in n xs) (same_closed n z) x).0
      ((relaxed_same n z (suc n) (omega arith) x).0 p)) in (
        no_levels_told n,
        λ x. (
          λ p. absurd (none_in x p),
          λ p. absurd
              (negative_empty n (zone_in n (no_levels n)) 0 (omega arith)
              (ap negative (in_bounds n (λ i j. at_most (negsuc 0)) 0 0 (omega arith) (omega arith))) x p),
        ),
      )
  closed_by false e =
      let xs : List Bound = turns n (suc n) (bounds_of n z) in
      let s : Same n (close n z) (zone_in n xs) = same_closed n z in
      let ca : Canonical n (close n z) = record {
        closed = tame_closed n z ta
            (λ i hi. rw (s i i hi hi) at (not_contradicts n (suc n) xs e i (omega arith)));
        floored =
            close_floored n z fl;
      } in (
        canonical_told n xs (same_canonical n (close n z) (zone_in n xs) s ca),
        λ x. (
          λ p. (same_levels n (close n z) (zone_in n xs) s x).0
              ((relaxed_same n z (suc n) (omega arith) x).0 p),
          λ p. (relaxed_same n z (suc n) (omega arith) x).1
              ((same_levels n (close n z) (zone_in n xs) s x).1 p),
        ),
      )

  pub closed_told : Told n (closed_bounds n z) × SameLevels n z (zone_in n (closed_bounds n z))
  closed_told = closed_by (contradicts n (suc n) (turns n (suc n) (bounds_of n z))) refl

-- ---- all events
pub shape_of : (n : ℕ) (xs : List Bound) → Told n xs → Canonical n (zone_in n xs) ⊎ Empty n (zone_in n xs)
shape_of n xs (inl t) = inl t.1
shape_of n xs (inr t) = inr t.1

module _ (n : ℕ) (start : Ranges) (w : FaultSet) (es : List Event) (xs : List Bound) (k : Kept n start w es (zone_in n xs)) where
  track_step : (r : Rates) → Told n xs → let ys : List Bound =
      cond (is_empty xs) xs (closed_bounds n (floor (widen r (zone_in n xs)))) in
      Kept n start w (step r ∷ es) (zone_in n ys) × Told n ys
  track_step r (inr (e, none_in)) = rw e (kept_empty n start w es (zone_in n xs) k (step r) none_in, inr (e, none_in))
  track_step r (inl (e, ca)) =
      let z : Zone = zone_in n xs in
      let c = closed_told n (floor (widen r z)) (step_tame n r z ca) (floor_floored n (widen r z)) in
      let ys : List Bound = closed_bounds n (floor (widen r z)) in
      let wi = widening n r z ca in
      rw e (
        kept_step n start w es z k (zone_in n ys) r (shape_of n ys c.0)
            (λ a b p m. (c.1 b).0 ((wi.3 b).0 (wi.0 a b p m)))
            (λ b p. wi.1 b ((wi.3 b).1 ((c.1 b).1 p))),
        c.0,
      )

  track_reading : (r : Reading) → r.first ≤ n → r.second ≤ n → (t : Bool) → w r.gauge ≡ t → Told n xs →
      let ys : List Bound = cond (t || is_empty xs) xs (closed_bounds n (meet_reading r (zone_in n xs))) in
      Kept n start w (reads r ∷ es) (zone_in n ys) × Told n ys
  track_reading r h₁ h₂ true b to = (kept_blamed n start w es (zone_in n xs) k r b, to)
  track_reading r h₁ h₂ false b (inr (e, none_in)) = rw e (
    kept_empty n start w es (zone_in n xs) k (reads r) none_in,
    inr
        (e, none_in),
  )
  track_reading r h₁ h₂ false b (inl (e, ca)) =
      let z : Zone = zone_in n xs in
      let tame : Tame n (meet_reading r z) = λ i hi. no_larger_trans (meet_reading r z i i) (z i i) zero_bound
      (reading_smaller r z i i) (no_larger_of (ca.closed.itself i hi)) in
      let fl : Floored n (meet_reading r z) = λ i hi. no_larger_trans (meet_reading r z 0 i) (z 0 i) zero_bound
      (reading_smaller r z 0 i) (ca.floored i hi) in
      let c = closed_told n (meet_reading r z) tame fl in
      let ys : List Bound = closed_bounds n (meet_reading r z) in
      let me = meeting_reading n z r h₁ h₂ in
      rw e (
        kept_reading n start w es z k (zone_in n ys) r b (shape_of n ys c.0)
            (λ x p q. (c.1 x).0 ((me x).0 p q))
            (λ x p. (me x).1 ((c.1 x).1 p)),
        c.0,
      )

pub tracked : (n : ℕ) (start : Ranges) (w : FaultSet) (es : List Event) → Ordered n start → Placed n es →
    Kept n start w es (zone_in n (zone_after n start w es)) × Told n (zone_after n start w es)
tracked n start w [] ok pl =
    let f = first n start ok in
    let s : Same n (first_zone start) (zone_in n (bounds_of n (first_zone start))) = in_bounds n (first_zone start) in
    let ca = same_canonical n (first_zone start) (zone_in n (bounds_of n (first_zone start))) s f.0 in
    let l = same_levels n (first_zone start) (zone_in n (bounds_of n (first_zone start))) s in (
      kept_start n start w (zone_in n (bounds_of n (first_zone start))) ca
          (λ x. (λ p. (l x).0 ((f.1 x).0 p), λ p. (f.1 x).1 ((l x).1 p))),
      canonical_told n (bounds_of n (first_zone start)) ca,
    )
tracked n start w (step r ∷ es) ok pl =
    let b = tracked n start w es ok pl in track_step n start w es (zone_after n start w es) b.0 r b.1
tracked n start w (reads r ∷ es) ok pl =
    let b = tracked n start w es ok pl.2 in
    track_reading n start w es (zone_after n start w es) b.0 r pl.0 pl.1 (w r.gauge) refl b.1

told_decides : (n : ℕ) (xs : List Bound) → Told n xs → Decides (is_empty xs) (Empty n (zone_in n xs))
told_decides n xs (inl (e, ca)) = let s = some_levels n (zone_in n xs) ca in
    (λ f. absurd (clash (sym e ∙ f)), λ none_in. absurd (none_in s.0 s.1))
told_decides n xs (inr (e, none_in)) = (λ _. none_in, λ _. e)

pub always_kept : AlwaysKept
always_kept n start w es ok pl = let t = tracked n start w es ok pl in (t.0, told_decides n (zone_after n start w es) t.1)
