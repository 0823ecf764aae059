-- The bits of a number as a set of gauges, and the number of such a set. Assumes nothing.
use Rattle.std.proofs.Common.{◌≡◌, ℕ, zero, suc, ◌+◌, ◌-◌, ◌*◌, ◌/◌, ◌%◌, ◌^◌, ◌<◌, ◌≤◌, Bool, true, false, cond, ◌&&◌, eqb, ltb, sym, refl, ap, ◌∙◌, inl, inr, mod-lt, pow-suc, one-add, arith, pow_pos}
use native.Mathlib.Nat.{mod-one}
use lib.Bits.{bit_and}
use lib.Count.{ones_in, ones, ones_cat}
use lib.Pow.{mod-pow-add}
use Rattle.std.proofs.lemmas.Nat.{one_shl}
use Rattle.std.proofs.lemmas.Nat.Bits.{bit_at-lt, bit_at_and, bit_at_above, bit_at_ones, bit_at_ones_above, bit_at_cat_low, bit_at_cat_high}
use Rattle.std.specs.Int.{bit_at}
use Rattle.std.proofs.lemmas.Bool.{cases_eq, cases_lt}
use Rattle.std.proofs.lemmas.Bool.Decides.{nat_tests}
use Rattle.theory.specs.History.{FaultSet, count}
use Rattle.faults.specs.Sets.{bit_set}

-- Shifted by g, at most 16, a 1 is the number of sets of g gauges.
pub subsets : (g : ℕ) → g ≤ 16 → 1 * 2 ^ g % 4294967296 - 0 ≡ 2 ^ g
subsets g h = let e : 1 * 2 ^ g % 4294967296 ≡ 2 ^ g = one_shl g 32 (omega arith) in omega arith

-- ---- single bits
-- The bits of a number below 2 to the g are bits below g.
pub bit_past : (m g a : ℕ) → m < 2 ^ g → g ≤ a → bit_set m a ≡ false
unfolding bit_set
bit_past m g a h l = ap (λ b. eqb b 1) (bit_at_above m g a h l)

-- Of two numbers, bit by bit.
pub bit_of_and : (m k a : ℕ) → bit_set (bit_and m k) a ≡ (bit_set m a && bit_set k a)
unfolding bit_set
bit_of_and m k a =
    let p = bit_at-lt m a in
    let q = bit_at-lt k a in
    rw (bit_at_and m k a) (grind (arith, nat_tests))

-- All bits below g.
pub bit_all : (g a : ℕ) → bit_set (2 ^ g - 1) a ≡ ltb a g
unfolding bit_set
bit_all g a =
    elim (cases_lt a g) [
      | inl l ↦ rw (bit_at_ones g a l) (grind (arith, nat_tests))
      | inr l ↦ rw (bit_at_ones_above g a l) (grind (arith, nat_tests))
    ]

-- ---- counting
bit_is : (b : ℕ) → b < 2 → cond (eqb b 1) 1 0 ≡ b
bit_is b h = grind (arith, nat_tests)

one_bit : (b : ℕ) → b < 2 → ones b ≡ b
unfolding ones ones_in
one_bit zero h = refl
one_bit (suc zero) h = refl
one_bit (suc (suc b)) h = absurd (omega arith)

-- The bit at g above those below it.
split_bit : (m g : ℕ) → m % 2 ^ suc g ≡ cond (bit_set m g) 1 0 * 2 ^ g + m % 2 ^ g
unfolding bit_set
split_bit m g =
    let e : m % 2 ^ suc g ≡ m / 2 ^ g % 2 * 2 ^ g + m % 2 ^ g =
    ap (λ k. m % 2 ^ k) (sym (one-add g)) ∙ mod-pow-add m 1 g in
    e ∙ ap (λ b. b * 2 ^ g + m % 2 ^ g) (sym (bit_is (m / 2 ^ g % 2) (omega arith)))

bit_small : (b : Bool) → cond b 1 0 < 2
bit_small b = grind arith

-- The ones of a number are as many as the gauges of its set.
pub count_bits : (g m : ℕ) → count g (bit_set m) ≡ ones (m % 2 ^ g)
unfolding ones ones_in
count_bits zero m = ap ones (sym (mod-one m))
count_bits (suc g) m =
    let b : ℕ = cond (bit_set m g) 1 0 in
    let parts : ones (b * 2 ^ g + m % 2 ^ g) ≡ ones b + ones (m % 2 ^ g) =
    ones_cat g b (m % 2 ^ g) (mod-lt m (pow_pos g)) in
    let here : ones b ≡ b = one_bit b (bit_small (bit_set m g)) in
    let below : count g (bit_set m) ≡ ones (m % 2 ^ g) = count_bits g m in
    cc (ap ones (split_bit m g))

-- ---- the number of a set
-- The number whose bits below g are the gauges of a set.
abbrev pub number : ℕ → FaultSet → ℕ
number zero w = 0
number (suc g) w = cond (w g) 1 0 * 2 ^ g + number g w

at_most_once : (b : Bool) (p : ℕ) → cond b 1 0 * p ≤ p
at_most_once true p = omega arith
at_most_once false p = omega arith

pub number_below : (g : ℕ) (w : FaultSet) → number g w < 2 ^ g
number_below zero w = omega arith
number_below (suc g) w =
    let below : number g w < 2 ^ g = number_below g w in
    let top : cond (w g) 1 0 * 2 ^ g ≤ 2 ^ g = at_most_once (w g) (2 ^ g) in
    rw pow-suc (omega arith)

-- A number is that of its bits.
pub number_bits : (g m : ℕ) → number g (bit_set m) ≡ m % 2 ^ g
number_bits zero m = sym (mod-one m)
number_bits (suc g) m = ap (λ r. cond (bit_set m g) 1 0 * 2 ^ g + r) (number_bits g m) ∙ sym (split_bit m g)

-- Sets that agree below g have one number.
pub number_same : (g : ℕ) (w v : FaultSet) → ((a : ℕ) → a < g → w a ≡ v a) → number g w ≡ number g v
number_same zero w v h = refl
number_same (suc g) w v h =
    let here : w g ≡ v g = h g (omega arith) in
    let below : number g w ≡ number g v = number_same g w v (λ a l. h a (omega arith)) in
    cc

-- The gauges below g of a set are those of its number.
pub bit_number : (g : ℕ) (w : FaultSet) (a : ℕ) → a < g → bit_set (number g w) a ≡ w a
unfolding bit_set
bit_number zero w a h = absurd (omega arith)
bit_number (suc g) w a h =
    let b : ℕ = cond (w g) 1 0 in
    let r : ℕ = number g w in
    elim (cases_eq a g) [
      | inl e ↦ ap (λ k. eqb (bit_at (b * 2 ^ g + r) k) 1) e ∙ ap (λ n. eqb n 1) (bit_at_cat_high b g r g (number_below g w) (omega arith))
          ∙ top_bit (w g) (g - g) (omega arith) ∙ ap w (sym e)
      | inr e ↦ ap (λ n. eqb n 1) (bit_at_cat_low b g r a (omega arith)) ∙ bit_number g w a (omega arith)
    ]
  where
    top_bit : (b : Bool) (k : ℕ) → k ≡ 0 → eqb (bit_at (cond b 1 0) k) 1 ≡ b
    top_bit true k e = rw e refl
    top_bit false k e = rw e refl
