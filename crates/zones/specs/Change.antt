-- What the first zone, a step and a reading leave of a zone in lent numbers. Assumes nothing: these are definitions.
use Rattle.std.specs.Prelude.{◌≡◌, ℕ, ◌+◌, ◌^◌, ◌≤◌, cond, ◌⊎◌, List, ℤ, pos, ◌-ℤ◌, ◌==◌, refl}
use Rattle.theory.specs.Bound.{at_most, NoLarger}
use Rattle.theory.specs.Level.{Levels, Ranges, Within, Rates, Moves}
use Rattle.theory.specs.Zone.{In, Empty, Canonical}
use Rattle.theory.specs.History.{Right}
use Rattle.theory.specs.History as history
use Rattle.zones.specs.declared.kinds.Range.{Range}
use Rattle.zones.specs.declared.kinds.Rate.{Rate}
use Rattle.zones.specs.declared.kinds.Reading.{Reading}
use Rattle.zones.specs.Numbers.{of_number, zone_of, no_levels, AllSized}

-- ---- the theory's words for what is lent
-- The range of number i: the datum's is 0 to 0, a basin's is in the list.
abbrev pub least_of : List Range → ℕ → ℕ
least_of rs i = (of_number (record { least = 0; most = 0 }) rs i).least

abbrev pub most_of : List Range → ℕ → ℕ
most_of rs i = (of_number (record { least = 0; most = 0 }) rs i).most

abbrev pub ranges_of : List Range → Ranges
ranges_of rs = record { least = least_of rs; most = λ i. at_most (pos (most_of rs i)); datum = (refl, refl) }

-- The most that number i is above number j at the start.
abbrev pub first_number : List Range → ℕ → ℕ → ℤ
first_number rs i j = cond (i == j) (pos 0) (pos (most_of rs i) -ℤ pos (least_of rs j))

-- How much number i can rise and fall: the datum not at all.
abbrev pub rise_of : List Rate → ℕ → ℕ
rise_of rs i = (of_number (record { rise = 0; fall = 0 }) rs i).rise

abbrev pub fall_of : List Rate → ℕ → ℕ
fall_of rs i = (of_number (record { rise = 0; fall = 0 }) rs i).fall

abbrev pub rates_of : List Rate → Rates
rates_of rs = record { rise = rise_of rs; fall = fall_of rs; datum = (refl, refl) }

-- The same reading, of a gauge a.
abbrev pub reading_of : ℕ → Reading → history.Reading
reading_of a r = record { gauge = a; first = r.first; second = r.second; low = r.low; high = r.high }

-- ---- sizes
-- Steps and readings are exact for zones whose numbers are no farther from 0 than this, but for those that are no bound. A
-- million steps of 10,000 from 100,000 come nowhere near.
abbrev pub reach : ℕ
reach = 2 ^ 39

-- No level is above h.
abbrev pub Roof : ℕ → ℕ → List ℤ → Type 0
Roof h n xs = (i : ℕ) → i ≤ n → NoLarger (zone_of n xs i 0) (at_most (pos h))

-- ---- what is left
-- The first zone is canonical, and has just the levels within the ranges, of which none is above 100,000.
pub record Starts (n : ℕ) (rs : List Range) (ys : List ℤ) : Type 0 where
  pub levels : (x : Levels) → (Within n (ranges_of rs) x → In n (zone_of n ys) x)
      × (In n (zone_of n ys) x → Within n (ranges_of rs) x)
  pub canonical : Canonical n (zone_of n ys)
  pub roof : Roof 100000 n ys

-- A step loses no levels that it can lead to. From a canonical zone it leads to just the levels that are left, which are
-- again a canonical zone, and at most 10,000 higher. Where there were no levels there are none.
pub record Steps (n : ℕ) (rs : List Rate) (xs ys : List ℤ) : Type 0 where
  pub sound : (x y : Levels) → In n (zone_of n xs) x → Moves n (rates_of rs) x y → In n (zone_of n ys) y
  pub exact :
      Canonical n (zone_of n xs) → AllSized reach n xs →
      Canonical n (zone_of n ys) × ((y : Levels) → In n (zone_of n ys) y → (x : Levels) × In n (zone_of n xs) x
      × Moves n (rates_of rs) x y)
  pub roof : (h : ℕ) → h ≤ reach → Canonical n (zone_of n xs) → Roof h n xs → Roof (h + 10000) n ys
  pub empty : xs ≡ no_levels n → ys ≡ no_levels n

-- A reading leaves just the levels at which it is right, whatever gauge has read so. They are a canonical zone, no higher
-- than before, or the numbers that stand for none.
pub record Reads (n : ℕ) (r : Reading) (xs ys : List ℤ) : Type 0 where
  pub levels :
      (a : ℕ) (x : Levels) → (In n (zone_of n xs) x → Right (reading_of a r) x → In n (zone_of n ys) x)
      × (In n (zone_of n ys) x → In n (zone_of n xs) x × Right (reading_of a r) x)
  pub form : (ys ≡ no_levels n) ⊎ ((AllSized reach n xs → Canonical n (zone_of n ys)) × ((h : ℕ) → Roof h n xs → Roof h n ys))
  pub empty : xs ≡ no_levels n → ys ≡ no_levels n

-- ---- the same for larger numbers, and for a step from whatever bounds there are
-- Steps and readings are exact too for zones whose numbers are no farther from 0 than this, but for those that are no bound: a
-- closing makes it 2 ^ 52 at most, which leaves a second one, after bounds have grown by 20,000, below its limit. A million
-- steps of 10,000 from 100,000 come nowhere near.
abbrev pub step_reach : ℕ
step_reach = 2 ^ 43

-- A step loses no levels that it can lead to. Within that reach it leads to just the levels that are left, whatever the bounds
-- were: they are a canonical zone, or the numbers that stand for none, and then there were none. A canonical zone stays one,
-- at most 10,000 higher, and the numbers that stand for no levels stay as they are.
pub record StepsFar (n : ℕ) (rs : List Rate) (xs ys : List ℤ) : Type 0 where
  pub sound : (x y : Levels) → In n (zone_of n xs) x → Moves n (rates_of rs) x y → In n (zone_of n ys) y
  pub exact :
      AllSized step_reach n xs →
      (((ys ≡ no_levels n) × Empty n (zone_of n xs)) ⊎ Canonical n (zone_of n ys))
      × ((y : Levels) → In n (zone_of n ys) y → (x : Levels) × In n (zone_of n xs) x × Moves n (rates_of rs) x y)
  pub roof :
      (h : ℕ) → h ≤ step_reach → Canonical n (zone_of n xs) → Roof h n xs → Canonical n (zone_of n ys) × Roof (h + 10000) n ys
  pub empty : xs ≡ no_levels n → ys ≡ no_levels n

-- A reading leaves just the levels at which it is right, whatever gauge has read so. They are a canonical zone, no higher
-- than before, or the numbers that stand for none.
pub record ReadsFar (n : ℕ) (r : Reading) (xs ys : List ℤ) : Type 0 where
  pub levels :
      (a : ℕ) (x : Levels) → (In n (zone_of n xs) x → Right (reading_of a r) x → In n (zone_of n ys) x)
      × (In n (zone_of n ys) x → In n (zone_of n xs) x × Right (reading_of a r) x)
  pub form :
      (ys ≡ no_levels n)
      ⊎ ((AllSized step_reach n xs → Canonical n (zone_of n ys)) × ((h : ℕ) → Roof h n xs → Roof h n ys))
  pub empty : xs ≡ no_levels n → ys ≡ no_levels n
