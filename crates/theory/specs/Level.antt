-- Levels, their differences, how they begin and how they move. Assumes nothing: these are definitions.
use Rattle.std.specs.Prelude.{◌≡◌, ℕ, ◌+◌, ◌≤◌, ℤ, pos, ◌-ℤ◌}
use Rattle.theory.specs.Bound.{Bound, Holds, zero_bound}

-- Whole millimetres by number: basins count from 1, and number 0 is the datum, whose level is 0.
abbrev pub Levels : Type 0
Levels = ℕ → ℕ

-- The level of number i.
abbrev pub level : ℕ → Levels → ℤ
level i x = pos (x i)

-- How far level i is above level j. A basin's own level is its difference to the datum.
unfoldable pub difference : Levels → ℕ → ℕ → ℤ
difference x i j = pos (x i) -ℤ pos (x j)

-- The least that each level is at the start, and the most, which may be open; the datum is at 0.
pub record Ranges : Type 0 where
  pub least : ℕ → ℕ
  pub most : ℕ → Bound
  pub datum : (least 0 ≡ 0) × (most 0 ≡ zero_bound)

-- The levels are within the ranges.
abbrev pub Within : ℕ → Ranges → Levels → Type 0
Within n r x = (i : ℕ) → i ≤ n → (r.least i ≤ x i) × Holds (r.most i) (pos (x i))

-- No range ends before it begins.
abbrev pub Ordered : ℕ → Ranges → Type 0
Ordered n r = Within n r r.least

-- How much each level can rise and fall in one step; the datum does neither.
pub record Rates : Type 0 where
  pub rise : ℕ → ℕ
  pub fall : ℕ → ℕ
  pub datum : (rise 0 ≡ 0) × (fall 0 ≡ 0)

-- Levels x can become y in one step.
pub record Moves (n : ℕ) (r : Rates) (x y : Levels) : Type 0 where
  pub datum : y 0 ≡ 0
  pub rises : (i : ℕ) → i ≤ n → y i ≤ x i + r.rise i
  pub falls : (i : ℕ) → i ≤ n → x i ≤ y i + r.fall i
