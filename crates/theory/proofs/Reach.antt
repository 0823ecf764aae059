-- In a canonical zone each bound is reached by whole levels. Assumes nothing.
--
-- The lowest level of k in the zone is low (z 0 k). Where the bound of i over j is c, the levels
-- x k = max (lowest of k, t less the bound of i over k), with t = lowest of j + c, are in the zone, by closedness in both
-- cases of the max, and x i - x j = c. Where there is no bound, t is as large as you like.
use Rattle.std.proofs.Common.{◌≡◌, ℕ, ◌+◌, ◌-◌, ◌≤◌, max, pos, ◌+ℤ◌, ◌≤ℤ◌, refl, subst, arith}
use borrow.Author.Differences.{up, down, ints}
use Rattle.theory.specs.Bound.{Bound, none, at_most, Holds, NoLarger}
use Rattle.theory.specs.Level.{Levels, difference}
use Rattle.theory.specs.Zone.{Zone, In, Canonical}
use Rattle.theory.specs.Law.{Reached, Unbounded, Unique}
use Rattle.theory.proofs.Bounds.{difference_is, no_larger_both}

-- the lower end that a bound of the datum gives, and what a bound leaves of t
abbrev pub low : Bound → ℕ
low none = 0
low (at_most c) = down c - up c

abbrev pub rest : ℕ → Bound → ℕ
rest t none = 0
rest t (at_most c) = t + down c - up c

-- the levels that reach a bound on i
abbrev pub reaching : Zone → ℕ → ℕ → Levels
reaching z i t k = max (low (z 0 k)) (rest t (z i k))

pub reaching_in : (n : ℕ) (z : Zone) (i t : ℕ) → Canonical n z → i ≤ n → rest t (z i 0) ≡ 0 → In n z (reaching z i t)
reaching_in n z i t ca hi h = record {
  datum = let e = ca.closed.itself 0 (omega arith) in grind arith;
  holds = λ a b ha hb.
      let p = ca.floored a ha in let q = ca.floored b hb in
      let u = ca.closed.through 0 b a (omega arith) hb ha in let v = ca.closed.through i b a hi hb ha in
      let d = difference_is (reaching z i t) a b in
      grind (arith, ints);
}

pub reached : Reached
reached n z i j c ca hi hj e =
    let t : ℕ = low (z 0 j) + up c - down c in
    let p = ca.floored i hi in let q = ca.floored j hj in let o = ca.closed.itself i hi in
    let u = ca.closed.through 0 j i (omega arith) hj hi in
    let v = ca.closed.through i j 0 hi hj (omega arith) in
    let d = difference_is (reaching z i t) i j in
    (reaching z i t, reaching_in n z i t ca hi (grind (arith, ints)), grind (arith, ints))

pub unbounded : Unbounded
unbounded n z i j ca hi hj e c =
    let t : ℕ = up c + low (z 0 j) in
    let q = ca.floored j hj in let o = ca.closed.itself i hi in
    let v = ca.closed.through i j 0 hi hj (omega arith) in
    let d = difference_is (reaching z i t) i j in
    (reaching z i t, reaching_in n z i t ca hi (grind (arith, ints)), grind (arith, ints))

-- a canonical zone has levels in it
pub some_levels : (n : ℕ) (z : Zone) → Canonical n z → (x : Levels) × In n z x
some_levels n z ca =
    let r = reached n z 0 0 (pos 0) ca (omega arith) (omega arith) (ca.closed.itself 0 (omega arith)) in (r.0, r.1)

-- a zone with more levels has no smaller bound
module _ (n : ℕ) (z y : Zone) (cz : Canonical n z) (cy : Canonical n y) (sub : (x : Levels) → In n z x → In n y x) where
  larger_by : (i j : ℕ) → i ≤ n → j ≤ n → (b c : Bound) → z i j ≡ b → y i j ≡ c → NoLarger b c
  larger_by i j hi hj b none e f = tt
  larger_by i j hi hj none (at_most c) e f =
      let r = unbounded n z i j cz hi hj e (c +ℤ pos 1) in
      let h : Holds (at_most c) (difference r.0 i j) = subst (λ v. Holds v (difference r.0 i j)) f
      ((sub r.0 r.1).holds i j hi hj) in
      let k : (c +ℤ pos 1) ≤ℤ difference r.0 i j = r.2 in
      omega (arith, ints)
  larger_by i j hi hj (at_most b) (at_most c) e f =
      let r = reached n z i j b cz hi hj e in
      let h : Holds (at_most c) (difference r.0 i j) = subst (λ v. Holds v (difference r.0 i j)) f
      ((sub r.0 r.1).holds i j hi hj) in
      let k : difference r.0 i j ≡ b = r.2 in
      omega (arith, ints)

  pub no_smaller : (i j : ℕ) → i ≤ n → j ≤ n → NoLarger (z i j) (y i j)
  no_smaller i j hi hj = larger_by i j hi hj (z i j) (y i j) refl refl

pub unique : Unique
unique n z y cz cy same i j hi hj =
    no_larger_both (z i j) (y i j) (no_smaller n z y cz cy (λ x. (same x).0) i j hi hj)
    (no_smaller n y z cy cz (λ x. (same x).1) i j hi hj)
