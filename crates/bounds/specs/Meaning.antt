-- What an i64 says as a bound, and which i64 stands for a bound. Assumes nothing: these are definitions.
use Rattle.std.specs.Prelude.{ℕ, ◌-◌, ◌^◌, cond, ℤ, pos, neg_ℤ, ◌≤ℤ◌, int_lt}
use Rattle.std.specs.Int.{saturate_to_bits}
use Rattle.theory.specs.Bound.{Bound, none, at_most, sum}

-- The largest i64 says that there is no bound; any other is the bound itself.
unfoldable pub bound_of : ℤ → Bound
bound_of a = cond (int_lt a (pos (2 ^ 63 - 1))) (at_most a) none

-- The i64 for a bound: the largest for none, else the one nearest to it. So a bound that is too large for an i64 becomes
-- none, and one that is too small becomes the smallest i64: both are looser than they were, never sharper.
unfoldable pub number_of : Bound → ℤ
number_of none = pos (2 ^ 63 - 1)
number_of (at_most c) = saturate_to_bits 63 c

-- The i64 for the sum of what two i64 say.
unfoldable pub total_sum : ℤ → ℤ → ℤ
total_sum a b = number_of (sum (bound_of a) (bound_of b))

-- A bound is none, or at most m from 0.
abbrev pub Sized : ℕ → Bound → Type 0
Sized m none = Unit
Sized m (at_most c) = (neg_ℤ (pos m) ≤ℤ c) × (c ≤ℤ pos m)

-- An i64 is none, or closer to 0 than 2^62: sums of two such are exact.
abbrev pub Moderate : ℤ → Type 0
Moderate a = Sized (2 ^ 62 - 1) (bound_of a)
