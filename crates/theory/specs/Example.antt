-- A worked example, as a statement about possible levels and wrong gauges. Assumes nothing.
--
-- Two basins, ranges 0 to 100, rise 3 and fall 2 for both; gauge 0 at basin 1, gauge 1 at basin 2, gauge 2 at basins 1 and
-- 2; at most one gauge is wrong.
use Rattle.std.specs.Prelude.{ℕ, zero, suc, Bool, false, ◌||◌, List, [], ◌∷◌, reverse, take, ℤ, pos, neg_ℤ, Decides, ◌==◌, refl}
use Rattle.std.specs.List.{AllByRecursion}
use Rattle.theory.specs.Bound.{Bound, at_most, zero_bound}
use Rattle.theory.specs.Level.{Levels, level, difference, Ranges, Rates}
use Rattle.theory.specs.History.{Event, step, reads}
use Rattle.theory.specs.Possible.{Possible, NonePossible, AlwaysWrong}
use Rattle.theory.specs.End.{Spans}

-- ---- the plant
-- The same for every basin, and nought for the datum.
abbrev pub each : ℕ → ℕ → ℕ
each v zero = 0
each v (suc i) = v

abbrev pub most : ℕ → Bound
most zero = zero_bound
most (suc i) = at_most (pos 100)

abbrev pub ranges : Ranges
ranges = record { least = each 0; most = most; datum = (refl, refl) }

abbrev pub rates : Rates
rates = record { rise = each 3; fall = each 2; datum = (refl, refl) }

-- ---- what happened, the oldest first
abbrev pub at_1 : ℕ → ℕ → Event
at_1 low high = reads record { gauge = 0; first = 1; second = 0; low = pos low; high = pos high }

abbrev pub at_2 : ℕ → ℕ → Event
at_2 low high = reads record { gauge = 1; first = 2; second = 0; low = pos low; high = pos high }

abbrev pub between : ℕ → ℕ → Event
between low high = reads record { gauge = 2; first = 1; second = 2; low = pos low; high = pos high }

abbrev pub events : List Event
events =
    at_1 48 52
    ∷ at_2 38 42
    ∷ between 8 12
    ∷ step rates
    ∷ at_1 70 74
    ∷ at_2 39 43
    ∷ between 9 13
    ∷ step rates
    ∷ at_1 20 24
    ∷ at_2 90 94
    ∷ []

-- The first k events, the newest first.
abbrev pub so_far : ℕ → List Event
so_far k = reverse (take k events)

-- ---- what is possible after them
abbrev pub after : ℕ → Levels → Type 0
after k x = Possible 2 3 1 ranges (so_far k) x

abbrev pub listed : ℕ → List ℕ → Bool
listed a [] = false
listed a (b ∷ bs) = a == b || listed a bs

-- Just the gauges of the list are wrong in all histories.
abbrev pub Names : ℕ → List ℕ → Type 0
Names k named = AllByRecursion (λ a. Decides (listed a named) (AlwaysWrong 2 3 1 ranges (so_far k) a)) (0 ∷ 1 ∷ 2 ∷ [])

-- What is shown after some events: basin 1, basin 2 and first less second, each from its least to its greatest value, and
-- the named gauges.
pub record Figures : Type 0 where
  pub one : ℤ × ℤ
  pub two : ℤ × ℤ
  pub less : ℤ × ℤ
  pub names : List ℕ

-- It is what is possible after k events, and the gauges that are wrong in all histories.
abbrev pub Row : ℕ → Figures → Type 0
Row k s =
    Spans (after k) (level 1) s.one.0 s.one.1
    × Spans (after k) (level 2) s.two.0 s.two.1
    × Spans (after k) (λ x. difference x 1 2) s.less.0 s.less.1
    × Names k s.names

abbrev pub row_2 : Figures
row_2 = record { one = (pos 0, pos 100); two = (pos 0, pos 100); less = (neg_ℤ (pos 52), pos 62); names = [] }

abbrev pub row_3 : Figures
row_3 = record { one = (pos 46, pos 54); two = (pos 36, pos 44); less = (pos 6, pos 14); names = [] }

abbrev pub row_4 : Figures
row_4 = record { one = (pos 44, pos 57); two = (pos 34, pos 47); less = (pos 1, pos 19); names = [] }

abbrev pub row_5 : Figures
row_5 = record { one = (pos 44, pos 57); two = (pos 36, pos 45); less = (pos 3, pos 17); names = 0 ∷ [] }

abbrev pub row_8 : Figures
row_8 = record { one = (pos 46, pos 59); two = (pos 37, pos 46); less = (pos 4, pos 18); names = 0 ∷ [] }

-- After all ten nothing is possible, and so every gauge is wrong in all histories.
abbrev pub WorkedExample : Type 0
WorkedExample =
    Row 2 row_2 × Row 3 row_3 × Row 4 row_4 × Row 5 row_5 × Row 8 row_8
    × NonePossible 2 3 1 ranges (so_far 10) × Names 10 (0 ∷ 1 ∷ 2 ∷ [])
