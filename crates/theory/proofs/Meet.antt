-- A zone with its floor, with one more bound, with a reading; the first zone. Assumes nothing.
use Rattle.std.proofs.Common.{◌≡◌, ℕ, ◌≤◌, Bool, true, false, cond, eqb, ℤ, neg_ℤ, ◌≤ℤ◌, sym, refl, subst, arith, eq-eqb, eqb-true}
use borrow.Author.Differences.{ints}
use Rattle.std.proofs.lemmas.Bool.Decides.{nat_tests}
use Rattle.theory.specs.Bound.{Bound, at_most, Holds, NoLarger, sharper, zero_bound}
use Rattle.theory.specs.Level.{Levels, difference}
use Rattle.theory.specs.Zone.{Zone, In, SameLevels, Floored, floor, meet}
use Rattle.theory.specs.History.{Reading, meet_reading}
use Rattle.theory.specs.Law.{First, Meeting, MeetingReading}
use Rattle.theory.proofs.Bounds.{difference_is, no_larger_refl, no_larger_trans, holds_larger, of_sharper}
use Rattle.theory.proofs.Bounds.{sharper_left, sharper_right}

-- no bound of y is larger than that of z, so its levels are in z
pub in_larger : (n : ℕ) (y z : Zone) (x : Levels) → ((i j : ℕ) → i ≤ n → j ≤ n → NoLarger (y i j) (z i j)) → In n y x → In n z x
in_larger n y z x h p = record {
  datum = p.datum;
  holds = λ i j hi hj. holds_larger (y i j) (z i j) (difference x i j)
      (h i j hi hj) (p.holds i j hi hj);
}

-- what a test leaves as it is, or makes sharper
cond_smaller : (t : Bool) (a b : Bound) → NoLarger a b → NoLarger (cond t a b) b
cond_smaller true a b h = h
cond_smaller false a b h = no_larger_refl b

-- ---- the floor
pub floor_smaller : (z : Zone) (i j : ℕ) → NoLarger (floor z i j) (z i j)
floor_smaller z i j = cond_smaller (eqb i 0) (sharper (z i j) zero_bound) (z i j) (sharper_left (z i j) zero_bound)

pub floor_floored : (n : ℕ) (z : Zone) → Floored n (floor z)
floor_floored n z i hi = sharper_right (z 0 i) zero_bound

pub floor_same : (n : ℕ) (z : Zone) → SameLevels n z (floor z)
floor_same n z x = (
  λ p. record {
    datum = p.datum;
    holds = λ i j hi hj. let d = difference_is x i j in let o = p.datum in
        let h = p.holds i j hi hj in grind (arith, ints, nat_tests);
  },
  in_larger n (floor z) z x (λ i j hi hj. floor_smaller z i j),
)

-- ---- one more bound
pub meet_smaller : (p q : ℕ) (b : Bound) (z : Zone) (i j : ℕ) → NoLarger (meet p q b z i j) (z i j)
meet_smaller p q b z i j =
    cond_smaller (eqb i p) (cond (eqb j q) (sharper (z i j) b) (z i j)) (z i j)
    (cond_smaller (eqb j q) (sharper (z i j) b) (z i j) (sharper_left (z i j) b))

meet_there : (p q : ℕ) (b : Bound) (z : Zone) → NoLarger (meet p q b z p q) b
meet_there p q b z = rw (eq-eqb p p refl, eq-eqb q q refl) (sharper_right (z p q) b)

meet_holds : (b c : Bound) (d e : ℤ) (s t : Bool) → (s ≡ true → t ≡ true → d ≡ e) → Holds b d → Holds c e →
    Holds (cond s (cond t (sharper b c) b) b) d
meet_holds b c d e true true f h k = of_sharper (λ v. Holds v d) b c h (subst (Holds c) (sym (f refl refl)) k)
meet_holds b c d e true false f h k = h
meet_holds b c d e false t f h k = h

pub meeting : Meeting
meeting n z p q b hp hq x = (
  λ m h. record {
    datum = m.datum;
    holds = λ i j hi hj. meet_holds (z i j) b (difference x i j) (difference x p q)
        (eqb i p) (eqb j q) (λ s t. rw (eqb-true i p s, eqb-true j q t)) (m.holds i j hi hj) h;
  },
  λ m. (
    in_larger n (meet p q b z) z x (λ i j hi hj. meet_smaller p q b z i j) m,
    holds_larger (meet p q b z p q) b
        (difference x p q) (meet_there p q b z) (m.holds p q hp hq),
  ),
)

-- ---- a reading
pub reading_smaller : (r : Reading) (z : Zone) (i j : ℕ) → NoLarger (meet_reading r z i j) (z i j)
reading_smaller r z i j =
    let y : Zone = meet r.second r.first (at_most (neg_ℤ r.low)) z in
    no_larger_trans (meet_reading r z i j) (y i j) (z i j) (meet_smaller r.first r.second (at_most r.high) y i j)
    (meet_smaller r.second r.first (at_most (neg_ℤ r.low)) z i j)

pub meeting_reading : MeetingReading
meeting_reading n z r h₁ h₂ x =
    let y : Zone = meet r.second r.first (at_most (neg_ℤ r.low)) z in
    let lower = meeting n z r.second r.first (at_most (neg_ℤ r.low)) h₂ h₁ x in
    let upper = meeting n y r.first r.second (at_most r.high) h₁ h₂ x in
    let d = difference_is x r.first r.second in let e = difference_is x r.second r.first in (
      λ m k. let l : r.low ≤ℤ difference x r.first r.second = k.0 in upper.0 (lower.0 m (omega (arith, ints))) k.1,
      λ m. let u = upper.1 m in let l = lower.1 u.0 in
          let s : difference x r.second r.first ≤ℤ neg_ℤ r.low = l.1 in (l.0, (omega (arith, ints), u.1)),
    )

-- ---- the first zone
pub first : First
first n r ok = (
  record {
    closed = record {
      itself = λ i hi. grind (arith, nat_tests);
      through = λ i j k hi hj hk. let a = ok k hk in grind (arith, ints, nat_tests);
    };
    floored = λ i hi. let a = ok i hi in let d = r.datum in grind (arith, ints, nat_tests);
  },
  λ x. (
    λ w. record {
      datum = let a = w 0 (omega arith) in let d = r.datum in grind (arith, ints);
      holds = λ i j hi hj. let a = w i hi in let b = w j hj in let d = difference_is x i j in grind (arith, ints, nat_tests);
    },
    λ p i hi. let a = p.holds i 0 hi (omega arith) in let b = p.holds 0 i (omega arith) hi in
        let d = difference_is x i 0 in let e = difference_is x 0 i in let o = p.datum in
        let s = r.datum in grind (arith, ints, nat_tests),
  ),
)
