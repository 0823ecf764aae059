-- A zone over a run of steps and readings, and how large its numbers become. Assumes nothing: these are definitions.
use Rattle.std.specs.Prelude.{◌≡◌, ℕ, ◌+◌, ◌*◌, ◌≤◌, ◌⊎◌, List, ℤ}
use Rattle.theory.specs.Zone.{Canonical}
use Rattle.zones.specs.declared.kinds.Range.{Range}
use Rattle.zones.specs.declared.kinds.Rate.{Rate}
use Rattle.zones.specs.declared.kinds.Reading.{Reading}
use Rattle.zones.specs.Numbers.{zone_of, no_levels, AllSized}
use Rattle.zones.specs.Change.{reach, Roof, Starts, Steps, Reads}

-- The numbers that a first zone, k steps and any readings between them leave.
pub data Run (n : ℕ) : ℕ → List ℤ → Type 0 where
  started : (rs : List Range) (ys : List ℤ) → Starts n rs ys → Run n 0 ys
  stepped : (k : ℕ) (rs : List Rate) (xs ys : List ℤ) → Run n k xs → Steps n rs xs ys → Run n (k + 1) ys
  met : (k : ℕ) (r : Reading) (xs ys : List ℤ) → Run n k xs → Reads n r xs ys → Run n k ys

-- Over a million steps and any readings every zone is canonical with no level above 100,000 and 10,000 for each step, and
-- of a size for which the next step and reading are exact; or it has no levels.
abbrev pub SizesHold : Type 0
SizesHold =
    (n k : ℕ) (xs : List ℤ) → k ≤ 1000000 → Run n k xs →
    (xs ≡ no_levels n)
    ⊎ (Canonical n (zone_of n xs) × Roof (100000 + 10000 * k) n xs × AllSized reach n xs)
