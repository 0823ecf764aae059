-- Numbers of a line as a plant has them. Assumes nothing: these are definitions.
use Rattle.std.specs.Prelude.{ℕ, ◌-◌, ◌^◌, cond, ◌&&◌, ℤ, pos, negsuc, None, Option, nat_le, nat_lt}
use Rattle.refusal.specs.Order.{when}

-- A number that fits is itself. Any other is the largest that fits, which is past every limit of a plant as well.
abbrev pub clamped : ℕ → ℤ → ℕ
clamped m (pos k) = cond (nat_lt k m) k (m - 1)
clamped m (negsuc k) = m - 1

-- of 32 bits, and of the 8 that a place of a gauge has
abbrev pub word : ℤ → ℕ
word n = clamped (2 ^ 32) n

abbrev pub byte : ℤ → ℕ
byte n = clamped (2 ^ 8) n

-- The index of a basin, 1 to 8, among all that a plant can have.
abbrev pub basin_index : ℤ → Option ℕ
basin_index (pos k) = when (nat_le 1 k && nat_le k 8) (k - 1)
basin_index (negsuc k) = None
