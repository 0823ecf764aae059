-- The laws of bounds that are written as i64. Assumes nothing.
use Rattle.std.proofs.Common.{◌≡◌, ℕ, ◌+◌, ◌-◌, ◌^◌, ◌≤◌, ◌⊎◌, ℤ, ◌≤ℤ◌, Decides, refl, ap, arith, w64, SFits}
use lib.Signed.{lt_z}
use Rattle.std.specs.Int.{int_min}
use Rattle.std.proofs.lemmas.Int.{ints}
use Rattle.theory.specs.Bound.{Bound, none, at_most, NoLarger, sum, sharper}
use Rattle.bounds.specs.Meaning.{bound_of, number_of, total_sum, Sized}

-- ---- numbers and bounds
-- Every bound has an i64.
pub number_fits : (b : Bound) → SFits w64 (number_of b)
unfolding number_of
number_fits none = grind (arith, ints)
number_fits (at_most c) = grind (arith, ints)

-- An i64 stands for what it says.
pub number_back : (a : ℤ) → SFits w64 a → number_of (bound_of a) ≡ a
unfolding number_of bound_of
number_back a f = grind (arith, ints)

-- What stands for a bound never says more than the bound.
pub never_sharper : (b : Bound) → NoLarger b (bound_of (number_of b))
unfolding number_of bound_of
never_sharper none = grind (arith, ints)
never_sharper (at_most c) = grind (arith, ints)

-- It says the same of a bound that is not too large.
pub number_exact : (b : Bound) → Sized (2 ^ 63 - 2) b → bound_of (number_of b) ≡ b
unfolding number_of bound_of
number_exact none h = refl
number_exact (at_most c) h = grind (arith, ints)

-- Numbers are ordered as what they say.
pub no_larger_le : (a b : ℤ) → SFits w64 a → NoLarger (bound_of a) (bound_of b) → a ≤ℤ b
unfolding bound_of
no_larger_le a b f h = grind (arith, ints)

pub le_no_larger : (a b : ℤ) → a ≤ℤ b → NoLarger (bound_of a) (bound_of b)
unfolding bound_of
le_no_larger a b h = grind (arith, ints)

pub number_ordered : (b c : Bound) → NoLarger b c → number_of b ≤ℤ number_of c
unfolding number_of
number_ordered none none h = grind (arith, ints)
number_ordered (at_most b) none h = grind (arith, ints)
number_ordered none (at_most c) h = absurd h
number_ordered (at_most b) (at_most c) h = grind (arith, ints)

-- ---- sums
-- Sizes add up.
pub sized_sum : (m k : ℕ) (b c : Bound) → Sized m b → Sized k c → Sized (m + k) (sum b c)
sized_sum m k none c h l = tt
sized_sum m k (at_most b) none h l = tt
sized_sum m k (at_most b) (at_most c) h l = omega (arith, ints)

pub sized_more : (m k : ℕ) (b : Bound) → m ≤ k → Sized m b → Sized k b
sized_more m k none h l = tt
sized_more m k (at_most b) h l = omega (arith, ints)

-- The sum is exact if the sizes of both add up to no more than 2^63 - 2.
pub sum_exact :
    (m k : ℕ) (a b : ℤ) → m + k ≤ 2 ^ 63 - 2 → Sized m (bound_of a) → Sized k (bound_of b) →
    bound_of (total_sum a b) ≡ sum (bound_of a) (bound_of b)
unfolding total_sum
sum_exact m k a b h p q =
    let s : Bound = sum (bound_of a) (bound_of b) in
    number_exact s (sized_more (m + k) (2 ^ 63 - 2) s h (sized_sum m k (bound_of a) (bound_of b) p q))

-- It is never sharper than the exact one.
pub sum_never_sharper : (a b : ℤ) → NoLarger (sum (bound_of a) (bound_of b)) (bound_of (total_sum a b))
unfolding total_sum
sum_never_sharper a b = never_sharper (sum (bound_of a) (bound_of b))

pub sum_fits : (a b : ℤ) → SFits w64 (total_sum a b)
unfolding total_sum
sum_fits a b = number_fits (sum (bound_of a) (bound_of b))

pub sum_commutes : (a b : ℤ) → total_sum a b ≡ total_sum b a
unfolding total_sum
sum_commutes a b = ap number_of (commutes (bound_of a) (bound_of b))
  where
    commutes : (b c : Bound) → sum b c ≡ sum c b
    commutes b c = grind (arith, ints)

-- Larger bounds have a larger sum: by what the numbers say, and by the numbers themselves.
sum_larger :
    (a b c d : ℤ) → NoLarger (bound_of a) (bound_of c) → NoLarger (bound_of b) (bound_of d) →
    total_sum a b ≤ℤ total_sum c d
unfolding total_sum
sum_larger a b c d h l =
    number_ordered (sum (bound_of a) (bound_of b)) (sum (bound_of c) (bound_of d))
    (ordered (bound_of a) (bound_of b) (bound_of c) (bound_of d) h l)
  where
    ordered : (a b c d : Bound) → NoLarger a c → NoLarger b d → NoLarger (sum a b) (sum c d)
    ordered a b c d h l = grind (arith, ints)

pub sum_monotone :
    (a b c d : ℤ) → NoLarger (bound_of a) (bound_of c) → NoLarger (bound_of b) (bound_of d) →
    NoLarger (bound_of (total_sum a b)) (bound_of (total_sum c d))
sum_monotone a b c d h l = le_no_larger (total_sum a b) (total_sum c d) (sum_larger a b c d h l)

pub sum_ordered : (a b c d : ℤ) → a ≤ℤ c → b ≤ℤ d → total_sum a b ≤ℤ total_sum c d
sum_ordered a b c d h l = sum_larger a b c d (le_no_larger a c h) (le_no_larger b d l)

-- ---- the sharper of two
pub sharper_means : (a b : ℤ) → bound_of (int_min a b) ≡ sharper (bound_of a) (bound_of b)
unfolding bound_of
sharper_means a b = grind (arith, ints)

pub sharper_one_of : (a b : ℤ) → (int_min a b ≡ a) ⊎ (int_min a b ≡ b)
sharper_one_of a b = grind (arith, ints)

pub sharper_no_larger : (a b : ℤ) → NoLarger (bound_of (int_min a b)) (bound_of a) × NoLarger (bound_of (int_min a b)) (bound_of b)
unfolding bound_of
sharper_no_larger a b = grind (arith, ints)

-- The smaller number is the sharper bound.
pub sharper_decides : (a b : ℤ) → SFits w64 b → Decides (lt_z a b) (NoLarger (bound_of b) (bound_of a) → ⊥)
unfolding bound_of
sharper_decides a b f = grind (arith, ints)
