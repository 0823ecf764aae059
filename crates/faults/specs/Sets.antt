-- Fault sets as numbers, and the order in which they are listed. Assumes nothing: these are definitions.
use Rattle.std.specs.Prelude.{◌≡◌, ℕ, ◌/◌, ◌%◌, ◌^◌, ◌<◌, ◌≤◌, true, ◌⊎◌, List, length, Decides, ◌==◌, count_ones, slice_index_or}
use Rattle.std.specs.List.{ContainsAt as Has, AllByRecursion}
use Rattle.theory.specs.History as history
use Rattle.faults.specs.declared.set.FaultSet.{FaultSet}

-- The bits of a number as a set of gauges: gauge a is in it if bit a is 1.
unfoldable pub bit_set : ℕ → history.FaultSet
bit_set m a = m / 2 ^ a % 2 == 1

-- A set as the theory has it.
abbrev pub gauge_set : FaultSet → history.FaultSet
gauge_set s = bit_set s.bits

-- How many gauges are in a set: the ones among its bits.
abbrev pub size : FaultSet → ℕ
size s = count_ones s.bits

-- Fewer gauges come first, and of as many the smaller number.
abbrev pub Before : FaultSet → FaultSet → Type 0
Before s t = (size s < size t) ⊎ ((size s ≡ size t) × (s.bits < t.bits))

-- Each comes before all later ones, so that none is there twice.
abbrev pub Ascending : List FaultSet → Type 0
Ascending xs = (i j : ℕ) (d : FaultSet) → i < j → j < length xs → Before (slice_index_or xs i d) (slice_index_or xs j d)

-- A set of at most f gauges, all of them below g.
abbrev pub Few : (f g : ℕ) → FaultSet → Type 0
Few f g s = (s.bits < 2 ^ g) × (size s ≤ f)

-- Just the sets of at most f gauges below g, each once, in order.
pub record Lists (f g : ℕ) (xs : List FaultSet) : Type 0 where
  pub sound : AllByRecursion (Few f g) xs
  pub complete : (s : FaultSet) → Few f g s → Has xs s
  pub ordered : Ascending xs

-- There are n such sets: some list of them has n places, and so has every one.
pub record NumberOf (f g n : ℕ) : Type 0 where
  pub sets : List FaultSet
  pub lists : Lists f g sets
  pub long : length sets ≡ n
  pub every : (xs : List FaultSet) → Lists f g xs → length xs ≡ n

-- In r are just the gauges below g, of the 16 that there can be, that are in all of the sets.
abbrev pub Common : ℕ → List FaultSet → FaultSet → Type 0
Common g xs r = (a : ℕ) → Decides (gauge_set r a) ((a < g) × (a < 16) × AllByRecursion (λ s. gauge_set s a ≡ true) xs)
