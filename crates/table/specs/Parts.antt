-- The zone table: one zone for each fault set, one behind the other in one row of numbers. Assumes nothing: these are
-- definitions.
use Rattle.std.specs.Prelude.{◌≡◌, ℕ, ◌+◌, ◌-◌, ◌*◌, ◌<◌, true, false, not, List, length, take, drop, ℤ, Option, Result, Ok, Err, ◌==◌, slice_index_or}
use Rattle.std.proofs.Common.{MutBor}
use Rattle.refusal.specs.Order.{when}
use Rattle.refusal.specs.declared.kinds.Refusal.{Refusal}
use Rattle.refusal.specs.declared.kinds.Refusal.TheVariants.{Length}
use Rattle.zones.specs.declared.kinds.Range.{Range}
use Rattle.zones.specs.declared.kinds.Rate.{Rate}
use Rattle.zones.specs.declared.kinds.Reading.{Reading}
use Rattle.zones.specs.Change.{Starts, StepsFar, ReadsFar}
use Rattle.faults.specs.declared.set.FaultSet.{FaultSet}
use Rattle.faults.specs.Sets.{gauge_set}

-- How many numbers a zone of n basins has.
abbrev pub size : ℕ → ℕ
size n = (n + 1) * (n + 1)

-- The numbers of the zone at place k.
unfoldable pub part : ℕ → ℕ → List ℤ → List ℤ
part n k xs = take ((k + 1) * size n - k * size n) (drop (k * size n) xs)

-- A table has a zone for each of m sets.
abbrev pub table_refused : (n m len : ℕ) → Option Refusal
table_refused n m len = when (not (len == m * size n)) (Length len)

-- ---- what a call does to the zone that is lent to it, for a fault set
abbrev pub Calls : Type 1
Calls = FaultSet → MutBor (List ℤ) → Result Unit Refusal → MutBor (List ℤ) → Type 0

-- The call found the numbers xs, answered r, and left the numbers ys.
pub record Changes (calls : Calls) (s : FaultSet) (xs : List ℤ) (r : Result Unit Refusal) (ys : List ℤ) : Type 0 where
  pub lent : MutBor (List ℤ)
  pub found : lent.now ≡ xs
  pub after : MutBor (List ℤ)
  pub left : after.now ≡ ys
  pub called : calls s lent r after

-- So was the zone of every set.
abbrev pub AllChanged : ℕ → Calls → List FaultSet → List ℤ → List ℤ → Type 0
AllChanged n calls sets xs ys =
    (k : ℕ) → k < length sets →
    Changes calls (slice_index_or sets k (record { bits = 0 })) (part n k xs) (Ok tt) (part n k ys)

-- A call refused a zone of n basins.
pub record OneRefused (n : ℕ) (calls : Calls) (e : Refusal) : Type 0 where
  pub set : FaultSet
  pub numbers : List ℤ
  pub long : length numbers ≡ size n
  pub left : List ℤ
  pub refused : Changes calls set numbers (Err e) left

-- ---- what is done to all zones of m sets
abbrev pub AllStart : ℕ → List Range → ℕ → List ℤ → Type 0
AllStart n rs m ys = (k : ℕ) → k < m → Starts n rs (part n k ys)

abbrev pub AllStep : ℕ → List Rate → ℕ → List ℤ → List ℤ → Type 0
AllStep n rs m xs ys = (k : ℕ) → k < m → StepsFar n rs (part n k xs) (part n k ys)

-- A reading of gauge a counts for nothing in a set that has the gauge; else it leaves the levels at which it is right.
pub record Heeds (n : ℕ) (r : Reading) (a : ℕ) (s : FaultSet) (xs ys : List ℤ) : Type 0 where
  pub blamed : gauge_set s a ≡ true → ys ≡ xs
  pub trusted : gauge_set s a ≡ false → ReadsFar n r xs ys

abbrev pub AllRead : ℕ → Reading → ℕ → List FaultSet → List ℤ → List ℤ → Type 0
AllRead n r a sets xs ys =
    (k : ℕ) → k < length sets → Heeds n r a (slice_index_or sets k (record { bits = 0 })) (part n k xs) (part n k ys)
