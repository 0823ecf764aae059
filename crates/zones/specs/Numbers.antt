-- Zones in lent numbers. Assumes nothing: these are definitions.
use Rattle.std.specs.Prelude.{◌≡◌, ℕ, zero, suc, ◌+◌, ◌*◌, ◌^◌, ◌≤◌, Bool, true, false, cond, ◌⊎◌, List, replicate, ℤ, pos, negsuc, ◌==◌, int_lt, slice_index_or}
use Rattle.theory.specs.Bound.{NoLarger}
use Rattle.theory.specs.Zone.{Zone, Empty, SameLevels, Closed, Floored, Canonical}
use Rattle.bounds.specs.Meaning.{bound_of, total_sum, Sized}

-- A zone of n basins is (n + 1) × (n + 1) numbers, row by row: the number of i over j.
unfoldable pub cell : ℕ → List ℤ → ℕ → ℕ → ℤ
cell n xs i j = slice_index_or xs (i * (n + 1) + j) (pos 0)

abbrev pub zone_of : ℕ → List ℤ → Zone
zone_of n xs i j = bound_of (cell n xs i j)

-- What a list of the basins' values says of number i: the datum's value is d, and a basin's is in the list.
abbrev pub of_number : {A : Type 0} → A → List A → ℕ → A
of_number d xs zero = d
of_number d xs (suc i) = slice_index_or xs i d

-- The numbers that stand for no levels: each number is below itself.
abbrev pub no_levels : ℕ → List ℤ
no_levels n = replicate ((n + 1) * (n + 1)) (negsuc 0)

-- Each number is 0 above itself.
abbrev pub ZeroDiagonal : ℕ → List ℤ → Type 0
ZeroDiagonal n xs = (i : ℕ) → i ≤ n → cell n xs i i ≡ pos 0

-- No number is farther from 0 than h, but for those that are no bound.
abbrev pub AllSized : ℕ → ℕ → List ℤ → Type 0
AllSized h n xs = (i j : ℕ) → i ≤ n → j ≤ n → Sized h (zone_of n xs i j)

-- The size up to which a closing is exact.
abbrev pub limit : ℕ
limit = 2 ^ 40

-- Each number between two different numbers has grown by m; those on themselves are as they were.
abbrev pub Widens : (n : ℕ) → (ℕ → ℕ → ℕ) → (xs ys : List ℤ) → Type 0
Widens n m xs ys =
    (i j : ℕ) → i ≤ n → j ≤ n → cell n ys i j ≡ cond (i == j) (cell n xs i j) (total_sum (cell n xs i j) (pos (m i j)))

-- What is left of the numbers xs when no number is above itself and no level below the datum, and whether there may be
-- levels: false where a number is below itself.
pub record Settles (n : ℕ) (xs : List ℤ) (r : Bool) (ys : List ℤ) : Type 0 where
  pub levels : SameLevels n (zone_of n xs) (zone_of n ys)
  pub smaller : (i j : ℕ) → i ≤ n → j ≤ n → NoLarger (zone_of n ys i j) (zone_of n xs i j)
  pub itself : r ≡ true → ZeroDiagonal n ys
  pub floored : r ≡ true → Floored n (zone_of n ys)
  pub sized : (h : ℕ) → AllSized h n xs → AllSized h n ys
  pub empty : r ≡ false → Empty n (zone_of n xs)

-- What the turns of a closing leave of the numbers xs, and whether there may be levels.
pub record Turns (n : ℕ) (xs : List ℤ) (r : Bool) (ys : List ℤ) : Type 0 where
  pub levels : SameLevels n (zone_of n xs) (zone_of n ys)
  pub smaller : (i j : ℕ) → i ≤ n → j ≤ n → NoLarger (zone_of n ys i j) (zone_of n xs i j)
  pub closed : r ≡ true → AllSized limit n xs → Closed n (zone_of n ys)
  pub empty : r ≡ false → Empty n (zone_of n xs)

-- What a closing leaves of the numbers xs: the same levels. They are the numbers that stand for none, or no bound is larger
-- than it was, and up to the limit the zone is canonical.
pub record Closes (n : ℕ) (xs ys : List ℤ) : Type 0 where
  pub levels : SameLevels n (zone_of n xs) (zone_of n ys)
  pub form :
      (ys ≡ no_levels n)
      ⊎ (((i j : ℕ) → i ≤ n → j ≤ n → NoLarger (zone_of n ys i j) (zone_of n xs i j))
      × (AllSized limit n xs → Canonical n (zone_of n ys)))

-- A test of the datum's own number: where it holds there are no levels, and of a canonical zone it does not hold, so that it
-- tells whether a zone that is kept has levels.
pub record TellsEmpty (n : ℕ) (xs : List ℤ) (r : Bool) : Type 0 where
  pub test : r ≡ int_lt (cell n xs 0 0) (pos 0)
  pub empty : r ≡ true → Empty n (zone_of n xs)
  pub kept : Canonical n (zone_of n xs) → r ≡ false
  pub none : xs ≡ no_levels n → r ≡ true

-- The same for larger numbers: a closing is exact up to this size too, since each of its at most nine turns can double a
-- size, and sums up to 2 ^ 62 are exact.
abbrev pub closing_reach : ℕ
closing_reach = 2 ^ 53

pub record TurnsFar (n : ℕ) (xs : List ℤ) (r : Bool) (ys : List ℤ) : Type 0 where
  pub levels : SameLevels n (zone_of n xs) (zone_of n ys)
  pub smaller : (i j : ℕ) → i ≤ n → j ≤ n → NoLarger (zone_of n ys i j) (zone_of n xs i j)
  pub closed : r ≡ true → AllSized closing_reach n xs → Closed n (zone_of n ys)
  pub sized : r ≡ true → (e : ℕ) → e ≤ 53 → AllSized (2 ^ e) n xs → AllSized (2 ^ (e + 9)) n ys
  pub empty : r ≡ false → Empty n (zone_of n xs)

-- The numbers ys stand for no levels, or no bound is larger than in xs, and up to that size the zone is canonical.
abbrev pub FarForm : ℕ → List ℤ → List ℤ → Type 0
FarForm n xs ys =
    (ys ≡ no_levels n)
    ⊎ (((i j : ℕ) → i ≤ n → j ≤ n → NoLarger (zone_of n ys i j) (zone_of n xs i j))
    × (AllSized closing_reach n xs → Canonical n (zone_of n ys)))

-- What a closing leaves of the numbers xs: the same levels, in that form. Up to that size no size grows by more than nine
-- doublings.
pub record ClosesFar (n : ℕ) (xs ys : List ℤ) : Type 0 where
  pub levels : SameLevels n (zone_of n xs) (zone_of n ys)
  pub form : FarForm n xs ys
  pub sized : (e : ℕ) → e ≤ 53 → AllSized (2 ^ e) n xs → AllSized (2 ^ (e + 9)) n ys
