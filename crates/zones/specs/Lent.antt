-- A zone that is lent by itself, in numbers without sign. Assumes nothing: these are definitions.
use Rattle.std.specs.Prelude.{◌≡◌, ℕ, ◌+◌, ◌*◌, ◌≤◌, min, Bool, cond, ◌||◌, List, length, pos, ◌-ℤ◌, Option, ◌==◌, nat_le, nat_lt, slice_index, refl}
use Rattle.std.specs.Option.{option_map}
use Rattle.refusal.specs.Order.{or_else, first_bad}
use Rattle.refusal.specs.declared.kinds.Refusal.{Refusal}
use Rattle.refusal.specs.declared.kinds.Refusal.TheVariants as refuses
use Rattle.theory.specs.Bound.{Bound, none, at_most}
use Rattle.theory.specs.Level.{Levels, Rates, Moves}
use Rattle.theory.specs.Zone.{Zone, In, Canonical}
use Rattle.zones.specs.Checks.{length_refused, size_refused}
use Rattle.zones.specs.Numbers.{of_number}

-- ---- what the numbers mean
-- A bound is written as the bound and 1,000,001, and no bound as 0.
unfoldable pub bound_of_code : ℕ → Bound
bound_of_code v = cond (v == 0) none (at_most (pos v -ℤ pos 1000001))

-- A zone of n basins is (n + 1) × (n + 1) numbers, row by row: the number of i over j.
abbrev pub number_at : ℕ → List ℕ → ℕ → ℕ → ℕ
number_at n xs i j = slice_index xs (i * (n + 1) + j)

abbrev pub zone_in : ℕ → List ℕ → Zone
zone_in n xs i j = bound_of_code (number_at n xs i j)

-- Rises, or falls, of the basins from 1 on; the datum does neither.
abbrev pub rate_of : List ℕ → ℕ → ℕ
rate_of rs i = of_number 0 rs i

abbrev pub rates_in : List ℕ → List ℕ → Rates
rates_in rise fall = record { rise = rate_of rise; fall = rate_of fall; datum = (refl, refl) }

-- ---- what is refused
-- The index of the first number above a limit.
abbrev pub first_above : ℕ → List ℕ → Option ℕ
first_above most xs = first_bad (λ v. nat_le v most) 0 xs

-- The first that applies: the number of basins; the length of the zone, of the rises, of the falls; a rise above 10,000, by
-- its basin; a fall above 10,000, by its basin and the number of basins; a number above 2,000,002, by its index.
abbrev pub refused : ℕ → List ℕ → List ℕ → List ℕ → Option Refusal
refused n rise fall xs =
    or_else (size_refused n (length xs))
    (or_else (length_refused n (length rise))
    (or_else (length_refused n (length fall))
    (or_else (option_map (λ i. refuses.Rate (i + 1)) (first_above 10000 rise))
    (or_else (option_map (λ i. refuses.Rate (n + (i + 1))) (first_above 10000 fall))
    (option_map refuses.ZoneNumber (first_above 2000002 xs))))))

-- No number is above a limit.
abbrev pub AllWithin : ℕ → List ℕ → Type 0
AllWithin most xs = (k : ℕ) → slice_index xs k ≤ most

-- ---- what a step makes of the numbers
-- A number that stands for a bound grows; no bound stays none.
abbrev pub grown : ℕ → ℕ → ℕ
grown v by = cond (v == 0) 0 (v + by)

-- Between two different numbers by the rise of the first and the fall of the second; a number on itself stays.
abbrev pub grown_at : List ℕ → List ℕ → ℕ → ℕ → ℕ → ℕ
grown_at rise fall i j v = cond (i == j) v (grown v (rate_of rise i + rate_of fall j))

-- The number of the smaller of two bounds, where none is the largest.
abbrev pub smaller : ℕ → ℕ → ℕ
smaller a b = cond (a == 0) b (cond (b == 0) a (min a b))

-- The bound is none, or above 0.
abbrev pub above_zero : ℕ → Bool
above_zero v = v == 0 || nat_lt 1000001 v

-- Without the levels below the datum: where the datum's bound on j is above 0 it becomes 0, and that of each other number
-- on j the smaller of itself and the number's bound on the datum. The bounds on the datum itself thus stay as they are, and
-- so does a number on itself.
abbrev pub floored_at : (ℕ → ℕ → ℕ) → ℕ → ℕ → ℕ
floored_at w i j =
    cond (i == j) (w i j) (cond (above_zero (w 0 j)) (cond (i == 0) 1000001 (smaller (w i j) (w i 0))) (w i j))

-- The numbers ys are those of xs, each grown.
abbrev pub Grown : ℕ → List ℕ → List ℕ → List ℕ → List ℕ → Type 0
Grown n rise fall xs ys =
    (i j : ℕ) → i ≤ n → j ≤ n → number_at n ys i j ≡ grown_at rise fall i j (number_at n xs i j)

-- The numbers ys are those of xs without the levels below the datum, in the column of basin b or in all.
abbrev pub FlooredBasin : ℕ → ℕ → List ℕ → List ℕ → Type 0
FlooredBasin n b xs ys =
    (i j : ℕ) → i ≤ n → j ≤ n →
    number_at n ys i j ≡ cond (j == b) (floored_at (number_at n xs) i j) (number_at n xs i j)

abbrev pub FlooredAll : ℕ → List ℕ → List ℕ → Type 0
FlooredAll n xs ys = (i j : ℕ) → i ≤ n → j ≤ n → number_at n ys i j ≡ floored_at (number_at n xs) i j

-- What a step leaves of the numbers xs: each grown, and then without the levels below the datum. A canonical zone stays
-- canonical, and has in it just the levels to which the step leads.
pub record WidenedLent (n : ℕ) (rise fall xs ys : List ℕ) : Type 0 where
  pub each :
      (i j : ℕ) → i ≤ n → j ≤ n →
      number_at n ys i j ≡ floored_at (λ a b. grown_at rise fall a b (number_at n xs a b)) i j
  pub canonical : Canonical n (zone_in n xs) → Canonical n (zone_in n ys)
  pub leads :
      Canonical n (zone_in n xs) → (x y : Levels) → In n (zone_in n xs) x → Moves n (rates_in rise fall) x y →
      In n (zone_in n ys) y
  pub comes :
      Canonical n (zone_in n xs) → (y : Levels) → In n (zone_in n ys) y →
      (x : Levels) × In n (zone_in n xs) x × Moves n (rates_in rise fall) x y
