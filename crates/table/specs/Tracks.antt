-- What an observer knows after a row of events. Assumes nothing: these are definitions.
use Rattle.std.specs.Prelude.{◌≡◌, ℕ, ◌+◌, ◌*◌, ◌<◌, ◌⊎◌, List, length, ℤ, vec_items, slice_index_or}
use Rattle.theory.specs.Level.{Ranges}
use Rattle.theory.specs.Zone.{Canonical}
use Rattle.theory.specs.History as history
use Rattle.theory.specs.Promise.{Kept}
use Rattle.zones.specs.Numbers.{zone_of, no_levels}
use Rattle.zones.specs.Change.{Roof}
use Rattle.faults.specs.Sets.{gauge_set, Lists}
use Rattle.plant.specs.declared.kinds.Event.{Event}
use Rattle.plant.specs.Events.{steps_in}
use Rattle.plant.specs.Resolve.{resolved, start_of}
use Rattle.table.specs.declared.state.Observer.{Observer}
use Rattle.table.specs.Parts.{part}

-- The numbers of one zone, after so many steps: they are canonical, with no level above 100,000 and 10,000 for each step, or
-- the pattern that stands for no levels.
abbrev pub AtRest : (n steps : ℕ) → List ℤ → Type 0
AtRest n k xs = (xs ≡ no_levels n) ⊎ (Canonical n (zone_of n xs) × Roof (100000 + 10000 * k) n xs)

-- One zone, for a fault set: in it are just the ends of the histories for this set.
pub record Follows (n k : ℕ) (start : Ranges) (w : history.FaultSet) (es : List history.Event) (xs : List ℤ) : Type 0 where
  pub rest : AtRest n k xs
  pub kept : Kept n start w es (zone_of n xs)

-- The observer has taken these events, oldest first: it has counted the steps, lists the fault sets of the gauges in play,
-- and follows each with its zone.
pub record Tracks (o : Observer) (es : List Event) : Type 0 where
  pub counted : o.steps ≡ steps_in es
  pub listed : Lists o.plant.wrong o.in_play (vec_items o.sets)
  pub follows : (k : ℕ) → k < length (vec_items o.sets) →
      Follows o.plant.basins o.steps (start_of o.plant)
      (gauge_set (slice_index_or (vec_items o.sets) k (record { bits = 0 })))
      (resolved o.plant es) (part o.plant.basins k (vec_items o.table))
