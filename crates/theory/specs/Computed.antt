-- Zones as lists of bounds, so that what is possible after some events can be computed. Assumes nothing: these are definitions.
use Rattle.std.specs.Prelude.{ℕ, zero, suc, ◌+◌, ◌*◌, ◌/◌, ◌%◌, Bool, true, false, cond, ◌&&◌, ◌||◌, List, [], ◌∷◌, ◌++◌, map, negsuc, Some, None, Option, ◌==◌, slice_index_or}
use Rattle.std.specs.List.{range_with_len}
use Rattle.theory.specs.Bound.{Bound, none, at_most, negative, looser}
use Rattle.theory.specs.Level.{Ranges}
use Rattle.theory.specs.Zone.{Zone, first_zone, widen, floor, relax}
use Rattle.theory.specs.History.{Event, step, reads, meet_reading, FaultSet}

-- ---- one zone
-- The bounds of a zone, row by row, and the zone of such a list.
abbrev pub bounds_of : ℕ → Zone → List Bound
bounds_of n z = map (λ p. z (p / suc n) (p % suc n)) (range_with_len 0 (suc n * suc n))

abbrev pub zone_in : ℕ → List Bound → Zone
zone_in n xs i j = slice_index_or xs (i * suc n + j) none

-- The turns of the closing through all numbers below m.
abbrev pub turns : ℕ → ℕ → List Bound → List Bound
turns n zero xs = xs
turns n (suc k) xs = bounds_of n (relax k (zone_in n (turns n k xs)))

-- Whether a number below m has a negative bound on itself.
abbrev pub contradicts : ℕ → ℕ → List Bound → Bool
contradicts n zero xs = false
contradicts n (suc m) xs = negative (zone_in n xs m m) || contradicts n m xs

-- One list stands for no levels: each number is below itself.
abbrev pub no_levels : ℕ → List Bound
no_levels n = bounds_of n (λ i j. at_most (negsuc 0))

abbrev pub is_empty : List Bound → Bool
is_empty xs = negative (slice_index_or xs 0 none)

abbrev pub closed_bounds : ℕ → Zone → List Bound
closed_bounds n z = let xs : List Bound = turns n (suc n) (bounds_of n z) in cond (contradicts n (suc n) xs) (no_levels n) xs

-- The levels that are possible after the events with a fault set, events newest first.
abbrev pub zone_after : ℕ → Ranges → FaultSet → List Event → List Bound
zone_after n start w [] = bounds_of n (first_zone start)
zone_after n start w (step r ∷ es) =
    let xs : List Bound = zone_after n start w es in cond (is_empty xs) xs (closed_bounds n (floor (widen r (zone_in n xs))))
zone_after n start w (reads r ∷ es) =
    let xs : List Bound = zone_after n start w es in
    cond (w r.gauge || is_empty xs) xs (closed_bounds n (meet_reading r (zone_in n xs)))

-- ---- all fault sets
abbrev pub no_faults : FaultSet
no_faults a = false

abbrev pub with_fault : ℕ → FaultSet → FaultSet
with_fault b w a = a == b || w a

-- The sets of at most f of the gauges below g.
abbrev pub fault_sets : ℕ → ℕ → List FaultSet
fault_sets f zero = no_faults ∷ []
fault_sets zero (suc g) = fault_sets zero g
fault_sets (suc f) (suc g) = fault_sets (suc f) g ++ map (with_fault g) (fault_sets f g)

-- The looser of two bounds, if any.
abbrev pub either : Option Bound → Option Bound → Option Bound
either None c = c
either (Some b) None = Some b
either (Some b) (Some c) = Some (looser b c)

abbrev pub loosest : List (Option Bound) → Option Bound
loosest [] = None
loosest (b ∷ bs) = either b (loosest bs)

-- The upper end of how far level i is above level j; None where nothing is possible.
abbrev pub bound_in : ℕ → ℕ → ℕ → List Bound → Option Bound
bound_in n i j xs = cond (is_empty xs) None (Some (zone_in n xs i j))

abbrev pub upper_end : (n g f : ℕ) → Ranges → List Event → ℕ → ℕ → Option Bound
upper_end n g f start es i j = loosest (map (λ w. bound_in n i j (zone_after n start w es)) (fault_sets f g))

-- Whether all sets pass a test.
abbrev pub all_pass : (FaultSet → Bool) → List FaultSet → Bool
all_pass t [] = true
all_pass t (w ∷ ws) = t w && all_pass t ws

-- Whether nothing is possible; whether a gauge is named: it is in every set that has levels.
abbrev pub no_history : (n g f : ℕ) → Ranges → List Event → Bool
no_history n g f start es = all_pass (λ w. is_empty (zone_after n start w es)) (fault_sets f g)

abbrev pub named : (n g f : ℕ) → Ranges → List Event → ℕ → Bool
named n g f start es a = all_pass (λ w. is_empty (zone_after n start w es) || w a) (fault_sets f g)
