-- The plant that the lines make. Assumes nothing: these are definitions.
use Rattle.std.specs.Prelude.{◌≡◌, ℕ, ◌+◌, List, [], ◌++◌, map, take, drop, is_some, Some, None, Err, vec_items, Option, Result, MatchResult}
use Rattle.std.specs.List.{enumerate_from, filter_map, position}
use Rattle.std.specs.Option.{option_map, option_or, unwrap_or}
use Rattle.refusal.specs.Order.{or_else}
use Rattle.refusal.specs.declared.failure.Failure.TheVariants.{Refused, NoMemory}
use Rattle.refusal.specs.declared.kinds.Refusal.{Refusal}
use Rattle.refusal.specs.declared.kinds.Refusal.TheVariants.{Placement}
use Rattle.plant.specs.declared.kinds.Gauge.{Gauge}
use Rattle.plant.specs.declared.whole.Plant.{Plant}
use Rattle.plant.specs.Checks.{plant_refused}
use Rattle.draft.specs.declared.errors.Item.TheVariants as item
use Rattle.draft.specs.declared.errors.PlantError.{PlantError}
use Rattle.draft.specs.declared.errors.PlantError.TheVariants.{Missing, Failed}
use Rattle.draft.specs.declared.errors.Stray.{Stray}
use Rattle.draft.specs.declared.kinds.Draft.{Draft}
use Rattle.draft.specs.declared.kinds.Lined.{Lined}

-- ---- what the lines say of n basins and g gauges
-- What is said, in order.
abbrev pub value_of : {A : Type 0} → Option (Lined A) → Option A
value_of o = option_map (λ a. a.value) o

abbrev pub said : {A : Type 0} → List (Option (Lined A)) → List A
said xs = filter_map value_of xs

-- A gauge of which nothing is said hangs nowhere: it is placed in no plant.
abbrev pub nowhere : Gauge
nowhere = record { first = 0; second = 0 }

abbrev pub hung : List (Option Gauge) → List Gauge
hung xs = map (λ o. unwrap_or o nowhere) xs

-- The smallest gauge past the count of which something is said.
abbrev pub past_gauge : ℕ → Draft → Option ℕ
past_gauge g d = option_or (option_map (λ k. g + k) (position is_some (drop g d.places))) d.past

-- What no plant is made of. Gauges below the count come before those past it.
abbrev pub draft_refused : (n g f : ℕ) → Draft → Option Refusal
draft_refused n g f d =
    or_else (plant_refused n f (said (take n d.ranges)) (said (take n d.rates)) (hung (take g d.places)))
    (option_map Placement (past_gauge g d))

-- ---- the plant
-- The plant of just what is said.
pub record Made (n g f : ℕ) (d : Draft) (p : Plant) : Type 0 where
  pub basins : p.basins ≡ n
  pub wrong : p.wrong ≡ f
  pub ranges : vec_items p.ranges ≡ said (take n d.ranges)
  pub rates : vec_items p.rates ≡ said (take n d.rates)
  pub gauges : vec_items p.gauges ≡ hung (take g d.places)

-- Why there is none: the first refusal, or want of memory.
abbrev pub Fails : Option Refusal → PlantError → Type 0
Fails checks (Missing i) = ⊥
Fails checks (Failed (Refused e)) = checks ≡ Some e
Fails checks (Failed NoMemory) = Unit

abbrev pub Makes : (n g f : ℕ) → Draft → Result Plant PlantError → Type 0
Makes n g f d r = MatchResult r (λ p. (draft_refused n g f d ≡ None) × Made n g f d p) (Fails (draft_refused n g f d))

-- The first count that is missing is told before anything is refused.
abbrev pub ByCounts : Option ℕ → Option ℕ → Option ℕ → Draft → Result Plant PlantError → Type 0
ByCounts None g f d r = r ≡ Err (Missing item.Basins)
ByCounts (Some n) None f d r = r ≡ Err (Missing item.Gauges)
ByCounts (Some n) (Some g) None d r = r ≡ Err (Missing item.Wrong)
ByCounts (Some n) (Some g) (Some f) d r = Makes n g f d r

abbrev pub PlantSays : Draft → Result Plant PlantError → Type 0
PlantSays d r = ByCounts d.basins d.gauges d.wrong d r

-- ---- lines that count for nothing
-- The line of a range or rate, beside its basin.
abbrev pub stray_of : {A : Type 0} → ℕ × Option (Lined A) → Option Stray
stray_of p = option_map (λ a. record { line = a.line; basin = p.0 }) p.1

-- Those of the basins past n.
abbrev pub past : {A : Type 0} → ℕ → List (Option (Lined A)) → List Stray
past n xs = filter_map stray_of (drop n (enumerate_from 1 xs))

-- The ranges, then the rates, of basins past the count, if it is known.
abbrev pub past_count : Option ℕ → Draft → List Stray
past_count None d = []
past_count (Some n) d = past n d.ranges ++ past n d.rates
