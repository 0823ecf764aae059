-- Laws of bounds and of differences. Assumes nothing.
use Rattle.std.proofs.Common.{◌≡◌, ℕ, ◌+◌, Bool, true, false, cond, ℤ, pos, ◌+ℤ◌, neg_ℤ, refl, ap, subst, arith}
use lib.Signed.{lt_z}
use borrow.Author.Differences.{up, down, ints}
use Rattle.theory.specs.Bound.{Bound, none, at_most, Holds, NoLarger, sum, sharper, looser, zero_bound, negative}
use Rattle.theory.specs.Level.{Levels, level, difference}

-- ---- differences: what omega wants to know of them
pub difference_is : (x : Levels) (i j : ℕ) → up (difference x i j) + x j ≡ down (difference x i j) + x i
unfolding difference
difference_is x i j = omega (arith, ints)

pub difference_same : (x : Levels) (i : ℕ) → difference x i i ≡ pos 0
difference_same x i = let d = difference_is x i i in omega (arith, ints)

pub difference_sum : (x : Levels) (i j k : ℕ) → difference x i j ≡ difference x i k +ℤ difference x k j
difference_sum x i j k =
    let d = difference_is x i j in let e = difference_is x i k in let f = difference_is x k j in omega (arith, ints)

pub difference_flip : (x : Levels) (i j : ℕ) → difference x i j ≡ neg_ℤ (difference x j i)
difference_flip x i j = let d = difference_is x i j in let e = difference_is x j i in omega (arith, ints)

-- above the datum a difference is the level
pub difference_datum : (x : Levels) (i : ℕ) → x 0 ≡ 0 → difference x i 0 ≡ level i x
difference_datum x i e = let d = difference_is x i 0 in omega (arith, ints)

-- ---- the order of bounds
pub no_larger_refl : (a : Bound) → NoLarger a a
no_larger_refl none = tt
no_larger_refl (at_most a) = omega (arith, ints)

pub no_larger_of : {a b : Bound} → a ≡ b → NoLarger a b
no_larger_of {a} {b} e = subst (λ v. NoLarger a v) e (no_larger_refl a)

pub no_larger_trans : (a b c : Bound) → NoLarger a b → NoLarger b c → NoLarger a c
no_larger_trans a b none h k = tt
no_larger_trans a none (at_most c) h k = absurd k
no_larger_trans none (at_most b) (at_most c) h k = absurd h
no_larger_trans (at_most a) (at_most b) (at_most c) h k = omega (arith, ints)

pub no_larger_both : (a b : Bound) → NoLarger a b → NoLarger b a → a ≡ b
no_larger_both none none h k = refl
no_larger_both none (at_most b) h k = absurd h
no_larger_both (at_most a) none h k = absurd k
no_larger_both (at_most a) (at_most b) h k = ap at_most (omega (arith, ints))

pub holds_larger : (a b : Bound) (d : ℤ) → NoLarger a b → Holds a d → Holds b d
holds_larger a none d h k = tt
holds_larger none (at_most b) d h k = absurd h
holds_larger (at_most a) (at_most b) d h k = omega (arith, ints)

-- ---- sums
pub holds_sum : (a b : Bound) (d e : ℤ) → Holds a d → Holds b e → Holds (sum a b) (d +ℤ e)
holds_sum none b d e h k = tt
holds_sum (at_most a) none d e h k = tt
holds_sum (at_most a) (at_most b) d e h k = omega (arith, ints)

pub sum_no_larger : (a b c d : Bound) → NoLarger a c → NoLarger b d → NoLarger (sum a b) (sum c d)
sum_no_larger a b none d h k = tt
sum_no_larger a b (at_most c) none h k = tt
sum_no_larger none b (at_most c) (at_most d) h k = absurd h
sum_no_larger (at_most a) none (at_most c) (at_most d) h k = absurd k
sum_no_larger (at_most a) (at_most b) (at_most c) (at_most d) h k = omega (arith, ints)

-- ---- the sharper and the looser of two
of_cond : (P : Bound → Type 0) (t : Bool) (a b : Bound) → P a → P b → P (cond t a b)
of_cond P true a b p q = p
of_cond P false a b p q = q

-- what holds of both holds of the sharper, and of the looser
pub of_sharper : (P : Bound → Type 0) (a b : Bound) → P a → P b → P (sharper a b)
of_sharper P none b p q = q
of_sharper P (at_most a) none p q = p
of_sharper P (at_most a) (at_most b) p q = of_cond P (lt_z b a) (at_most b) (at_most a) q p

pub of_looser : (P : Bound → Type 0) (a b : Bound) → P a → P b → P (looser a b)
of_looser P none b p q = p
of_looser P (at_most a) none p q = q
of_looser P (at_most a) (at_most b) p q = of_cond P (lt_z b a) (at_most a) (at_most b) p q

pub sharper_left : (a b : Bound) → NoLarger (sharper a b) a
sharper_left a b = grind (arith, ints)

pub sharper_right : (a b : Bound) → NoLarger (sharper a b) b
sharper_right none b = no_larger_refl b
sharper_right (at_most a) b = grind (arith, ints)

pub looser_left : (a b : Bound) → NoLarger a (looser a b)
looser_left a b = grind (arith, ints)

pub looser_right : (a b : Bound) → NoLarger b (looser a b)
looser_right a b = grind (arith, ints)

-- ---- negative bounds
pub negative_none : (b : Bound) → negative b ≡ true → Holds b (pos 0) → ⊥
negative_none none e h = grind arith
negative_none (at_most c) e h = omega (arith, ints)

pub not_negative : (b : Bound) → negative b ≡ false → NoLarger zero_bound b
not_negative none e = tt
not_negative (at_most c) e = omega (arith, ints)
