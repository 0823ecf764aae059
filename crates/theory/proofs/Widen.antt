-- A step widens a canonical zone by just what the levels can do, and leaves it closed. Assumes nothing.
--
-- From y in the wider zone the levels x k = max over i of (y i - rise of i - the bound of i over k) are in the zone, and
-- y can be reached from them: each of the numbers under the max is at most y k + fall of k by the widened bound, and that
-- of i = k is y k - rise of k.
use Rattle.std.proofs.Common.{◌≡◌, ℕ, ◌+◌, ◌-◌, ◌≤◌, true, ◌⊎◌, ℤ, refl, inl, inr, arith}
use borrow.Author.Differences.{up, down, ints}
use Rattle.std.proofs.lemmas.Bool.Decides.{nat_tests}
use Rattle.theory.specs.Bound.{Bound, none, at_most, Holds, zero_bound, negative}
use Rattle.theory.specs.Level.{Levels, difference, Rates, Moves}
use Rattle.theory.specs.Zone.{Zone, In, Empty, SameLevels, Closed, Canonical, Tame, widen, floor, close}
use Rattle.theory.specs.Law.{Widening}
use Rattle.theory.proofs.Bounds.{difference_is, no_larger_trans, no_larger_of}
use Rattle.theory.proofs.Tops.{top, top_below, at_top}
use Rattle.theory.proofs.Reach.{some_levels}
use Rattle.theory.proofs.Meet.{floor_smaller, floor_floored, floor_same}
use Rattle.theory.proofs.Close.{closing, close_floored}

-- a less b and a bound
abbrev pub left : ℕ → ℕ → Bound → ℕ
left a b none = 0
left a b (at_most c) = a + down c - (b + up c)

-- levels of the zone from which y can be reached
abbrev pub origin : ℕ → Rates → Zone → Levels → Levels
origin n r z y k = top n (λ i. left (y i) (r.rise i) (z i k))

pub lands : (n : ℕ) (r : Rates) (z : Zone) (x y : Levels) → In n z x → Moves n r x y → In n (widen r z) y
lands n r z x y p m = record {
  datum = m.datum;
  holds = λ i j hi hj.
      let a = p.holds i j hi hj in let b = m.rises i hi in let c = m.falls j hj in
      let d = difference_is x i j in let e = difference_is y i j in
      grind (arith, ints, nat_tests);
}

module _ (n : ℕ) (r : Rates) (z : Zone) (ca : Canonical n z) (y : Levels) (p : In n (widen r z) y) where
  left_below : (i k : ℕ) → i ≤ n → k ≤ n → left (y i) (r.rise i) (z i k) ≤ y k + r.fall k
  left_below i k hi hk =
      let w = p.holds i k hi hk in let o = ca.closed.itself i hi in let d = difference_is y i k in grind (arith, ints, nat_tests)

  origin_below : (k : ℕ) → k ≤ n → origin n r z y k ≤ y k + r.fall k
  origin_below k hk = top_below n (λ i. left (y i) (r.rise i) (z i k)) (y k + r.fall k) (λ i hi. left_below i k hi hk)

  -- one of the numbers under the max for a keeps the bound c of a over b
  left_keeps : (a b : ℕ) → a ≤ n → b ≤ n → (c : ℤ) → z a b ≡ at_most c → (i : ℕ) → i ≤ n →
      left (y i) (r.rise i) (z i a) ≤ origin n r z y b + up c - down c
  left_keeps a b ha hb c e i hi =
      let u = ca.floored a ha in let v = ca.floored b hb in
      let s = ca.closed.through 0 b a (omega arith) hb ha in let t = ca.closed.through i b a hi hb ha in
      let d = p.datum in let q = r.datum in
      let m = at_top n (λ k. left (y k) (r.rise k) (z k b)) 0 (omega arith) in
      let l = at_top n (λ k. left (y k) (r.rise k) (z k b)) i hi in
      grind (arith, ints)

  keeps_low : (a b : ℕ) → a ≤ n → b ≤ n → (c : ℤ) → z a b ≡ at_most c → down c ≤ origin n r z y b + up c
  keeps_low a b ha hb c e =
      let u = ca.floored a ha in let v = ca.floored b hb in
      let s = ca.closed.through 0 b a (omega arith) hb ha in
      let d = p.datum in let q = r.datum in
      let m = at_top n (λ k. left (y k) (r.rise k) (z k b)) 0 (omega arith) in
      grind (arith, ints)

  origin_holds : (a b : ℕ) → a ≤ n → b ≤ n → (w : Bound) → z a b ≡ w → Holds w (difference (origin n r z y) a b)
  origin_holds a b ha hb none e = tt
  origin_holds a b ha hb (at_most c) e =
      let h = top_below n (λ i. left (y i) (r.rise i) (z i a)) (origin n r z y b + up c - down c) (left_keeps a b ha hb c e) in
      let g = keeps_low a b ha hb c e in let d = difference_is (origin n r z y) a b in
      omega (arith, ints)

  pub origin_in : In n z (origin n r z y)
  origin_in = record {
    datum = let h = origin_below 0 (omega arith) in let d = p.datum in let q = r.datum.1 in omega arith;
    holds = λ a b ha hb. origin_holds a b ha hb (z a b) refl;
  }

  pub origin_moves : Moves n r (origin n r z y) y
  origin_moves = record {
    datum = p.datum;
    rises = λ k hk. let t = at_top n (λ i. left (y i) (r.rise i) (z i k)) k hk in
        let o = ca.closed.itself k hk in grind (arith, ints);
    falls = origin_below;
  }

pub widen_closed : (n : ℕ) (r : Rates) (z : Zone) → Canonical n z → Closed n (widen r z)
widen_closed n r z ca = record {
  itself = λ i hi. grind (arith, nat_tests);
  through = λ i j k hi hj hk.
      let h = ca.closed.through i j k hi hj hk in
      let a = ca.closed.itself i hi in let b = ca.closed.itself j hj in let c = ca.closed.itself k hk in
      grind (arith, ints, nat_tests);
}

-- the floor and a closing after it
pub step_tame : (n : ℕ) (r : Rates) (z : Zone) → Canonical n z → Tame n (floor (widen r z))
step_tame n r z ca i hi =
    no_larger_trans (floor (widen r z) i i) (widen r z i i) zero_bound (floor_smaller (widen r z) i i)
    (no_larger_of ((widen_closed n r z ca).itself i hi))

step_same : (n : ℕ) (r : Rates) (z : Zone) → Canonical n z → SameLevels n (widen r z) (close n (floor (widen r z)))
step_same n r z ca x =
    let f = floor_same n (widen r z) x in let c = (closing n (floor (widen r z)) (step_tame n r z ca)).0 x in
    (λ p. c.0 (f.0 p), λ p. f.1 (c.1 p))

-- a step never empties a zone: the levels may stay
pub stays : (n : ℕ) (r : Rates) (z : Zone) → Canonical n z → (x : Levels) × In n (widen r z) x
stays n r z ca =
    let s = some_levels n z ca in (
      s.0,
      lands n r z s.0 s.0 s.1 record {
        datum = s.1.datum;
        rises = λ i hi. omega arith;
        falls =
            λ i hi. omega arith;
      },
    )

pub step_canonical : (n : ℕ) (r : Rates) (z : Zone) → Canonical n z → Canonical n (close n (floor (widen r z)))
step_canonical n r z ca = record {
  closed = go (closing n (floor (widen r z)) (step_tame n r z ca)).2;
  floored = close_floored n (floor (widen r z)) (floor_floored n (widen r z));
}
  where
    go : Closed n (close n (floor (widen r z))) ⊎ ((k : ℕ) × (k ≤ n) × (negative (close n (floor (widen r z)) k k) ≡ true)
        × Empty n (floor (widen r z))) → Closed n (close n (floor (widen r z)))
    go (inl c) = c
    go (inr (k, h, e, none_in)) = let s = stays n r z ca in absurd (none_in s.0 ((floor_same n (widen r z) s.0).0 s.1))

pub widening : Widening
widening n r z ca = (
  lands n r z,
  λ y p. (origin n r z y, origin_in n r z ca y p, origin_moves n r z ca y p),
  widen_closed n r z ca,
  floor_same n (widen r z),
  step_same n r z ca,
  step_canonical n r z ca,
)
