-- Zones of levels, and what is done to them. Assumes nothing: these are definitions.
use Rattle.std.specs.Prelude.{◌≡◌, ℕ, zero, suc, ◌+◌, ◌≤◌, cond, pos, neg_ℤ, ◌==◌}
use Rattle.theory.specs.Bound.{Bound, at_most, Holds, NoLarger, sum, sharper, zero_bound}
use Rattle.theory.specs.Level.{Levels, difference, Ranges, Rates}

-- A zone has a bound for each two of the numbers 0 to n: a difference-bound matrix.
abbrev pub Zone : Type 0
Zone = ℕ → ℕ → Bound

-- Levels are in a zone if all its bounds hold of them.
pub record In (n : ℕ) (z : Zone) (x : Levels) : Type 0 where
  pub datum : x 0 ≡ 0
  pub holds : (i j : ℕ) → i ≤ n → j ≤ n → Holds (z i j) (difference x i j)

abbrev pub Empty : ℕ → Zone → Type 0
Empty n z = (x : Levels) → In n z x → ⊥

abbrev pub SameLevels : ℕ → Zone → Zone → Type 0
SameLevels n z y = (x : Levels) → (In n z x → In n y x) × (In n y x → In n z x)

-- ---- closed zones
-- No bound is larger than the sum of two through a third number, and each number is 0 above itself.
pub record Closed (n : ℕ) (z : Zone) : Type 0 where
  pub itself : (i : ℕ) → i ≤ n → z i i ≡ zero_bound
  pub through : (i j k : ℕ) → i ≤ n → j ≤ n → k ≤ n → NoLarger (z i j) (sum (z i k) (z k j))

-- The zone itself says that no level is below the datum.
abbrev pub Floored : ℕ → Zone → Type 0
Floored n z = (i : ℕ) → i ≤ n → NoLarger (z 0 i) zero_bound

-- Closed, with its floor: the one form in which levels are kept.
pub record Canonical (n : ℕ) (z : Zone) : Type 0 where
  pub closed : Closed n z
  pub floored : Floored n z

-- No number is above itself by more than 0.
abbrev pub Tame : ℕ → Zone → Type 0
Tame n z = (i : ℕ) → i ≤ n → NoLarger (z i i) zero_bound

-- ---- what is done to a zone
-- The zone of the levels within ranges.
abbrev pub first_zone : Ranges → Zone
first_zone r i j = cond (i == j) zero_bound (sum (r.most i) (at_most (neg_ℤ (pos (r.least j)))))

-- After a step a bound between two different numbers has grown by the rise of the first and the fall of the second.
abbrev pub widen : Rates → Zone → Zone
widen r z i j = cond (i == j) zero_bound (sum (z i j) (at_most (pos (r.rise i + r.fall j))))

-- Without the levels below the datum.
abbrev pub floor : Zone → Zone
floor z i j = cond (i == 0) (sharper (z i j) zero_bound) (z i j)

-- With one more bound, b, on how far level p is above level q.
abbrev pub meet : ℕ → ℕ → Bound → Zone → Zone
meet p q b z i j = cond (i == p) (cond (j == q) (sharper (z i j) b) (z i j)) (z i j)

-- One turn of the closing: each bound made as sharp as the sum through k.
abbrev pub relax : ℕ → Zone → Zone
relax k z i j = sharper (z i j) (sum (z i k) (z k j))

-- The turns through all numbers below m.
abbrev pub relaxed : ℕ → Zone → Zone
relaxed zero z = z
relaxed (suc k) z = relax k (relaxed k z)

-- The turns through all numbers 0 to n.
abbrev pub close : ℕ → Zone → Zone
close n z = relaxed (suc n) z
