-- A plant's lines as they come. Assumes nothing: these are definitions.
use Rattle.std.specs.Prelude.{◌≡◌, ℕ, min, cond, List, replicate, ℤ, pos, negsuc, Some, None, Ok, Err, Option, Result, MatchResult, nat_lt, slice_index_or, slice_set}
use Rattle.text.specs.declared.entry.Entry.{Entry}
use Rattle.text.specs.declared.entry.Entry.TheVariants as entry
use Rattle.zones.specs.declared.kinds.Range.{Range}
use Rattle.zones.specs.declared.kinds.Rate.{Rate}
use Rattle.plant.specs.declared.kinds.Gauge.{Gauge}
use Rattle.draft.specs.declared.errors.DraftError.{DraftError}
use Rattle.draft.specs.declared.errors.DraftError.TheVariants.{Twice, NoBasin, NoGauge, NoItem}
use Rattle.draft.specs.declared.errors.Item.{Item}
use Rattle.draft.specs.declared.errors.Item.TheVariants as item
use Rattle.draft.specs.declared.kinds.Draft.{Draft}
use Rattle.draft.specs.declared.kinds.Lined.{Lined}
use Rattle.draft.specs.Numbers.{word, byte, basin_index}

-- The state after a line, or why the line is not taken.
abbrev pub Outcome : Type 0 → Type 0
Outcome S = Result S DraftError

-- A line that is not taken changes nothing.
abbrev pub Turns : {S : Type 0} → Outcome S → S → S → Outcome Unit → Type 0
Turns outcome before after r = MatchResult r (λ _. outcome ≡ Ok after) (λ e. (outcome ≡ Err e) × (after ≡ before))

-- The part that a line speaks of, within the whole.
abbrev pub within : {S P : Type 0} → (P → S) → Outcome P → Outcome S
within whole (Ok p) = Ok (whole p)
within whole (Err e) = Err e

-- What is said for the first time is kept.
abbrev pub kept : {A : Type 0} → Item → A → Option A → Outcome (Option A)
kept i a None = Ok (Some a)
kept i a (Some b) = Err (Twice i)

abbrev pub kept_at : {A : Type 0} → Item → A → ℕ → List (Option A) → Outcome (List (Option A))
kept_at i a k xs = within (slice_set xs k) (kept i a (slice_index_or xs k None))

-- The same for a basin, if a plant can have it.
abbrev pub kept_found : {A : Type 0} → Item → A → ℤ → Option ℕ → List (Option A) → Outcome (List (Option A))
kept_found i a b None xs = Err (NoBasin b)
kept_found i a b (Some k) xs = kept_at i a k xs

abbrev pub kept_basin : {A : Type 0} → Item → A → ℤ → List (Option A) → Outcome (List (Option A))
kept_basin i a b xs = kept_found i a b (basin_index b) xs

-- ---- one part of a draft in place of another
abbrev pub drafted : (basins gauges wrong : Option ℕ) → List (Option (Lined Range)) → List (Option (Lined Rate)) →
    List (Option Gauge) → Option ℕ → Draft
drafted n g f rs vs ps p = record {
  basins = n;
  gauges = g;
  wrong = f;
  ranges = rs;
  rates = vs;
  places = ps;
  past = p;
}

abbrev pub with_basins : Draft → Option ℕ → Draft
with_basins d o = drafted o d.gauges d.wrong d.ranges d.rates d.places d.past

abbrev pub with_gauges : Draft → Option ℕ → Draft
with_gauges d o = drafted d.basins o d.wrong d.ranges d.rates d.places d.past

abbrev pub with_wrong : Draft → Option ℕ → Draft
with_wrong d o = drafted d.basins d.gauges o d.ranges d.rates d.places d.past

abbrev pub with_ranges : Draft → List (Option (Lined Range)) → Draft
with_ranges d xs = drafted d.basins d.gauges d.wrong xs d.rates d.places d.past

abbrev pub with_rates : Draft → List (Option (Lined Rate)) → Draft
with_rates d xs = drafted d.basins d.gauges d.wrong d.ranges xs d.places d.past

abbrev pub with_places : Draft → List (Option Gauge) → Draft
with_places d xs = drafted d.basins d.gauges d.wrong d.ranges d.rates xs d.past

abbrev pub with_past : Draft → Option ℕ → Draft
with_past d o = drafted d.basins d.gauges d.wrong d.ranges d.rates d.places o

-- ---- the draft after a line
-- Nothing is said so far.
abbrev pub blank : Draft
blank = drafted None None None (replicate 8 None) (replicate 8 None) (replicate 13 None) None

-- The smallest so far.
abbrev pub least : Option ℕ → ℕ → ℕ
least None k = k
least (Some m) k = min m k

-- Gauges that have no place are past every plant: the smallest of them is kept.
abbrev pub noted_gauge : Draft → ℤ → Gauge → Outcome Draft
noted_gauge d (negsuc k) g = Err (NoGauge (negsuc k))
noted_gauge d (pos k) g =
    cond (nat_lt k 13) (within (with_places d) (kept_at (item.Gauge (pos k)) g k d.places))
    (Ok (with_past d (Some (least d.past (word (pos k))))))

-- The draft after a line of this number.
abbrev pub noted : ℕ → Entry → Draft → Outcome Draft
noted l (entry.Basins n) d = within (with_basins d) (kept item.Basins (word n) d.basins)
noted l (entry.Gauges n) d = within (with_gauges d) (kept item.Gauges (word n) d.gauges)
noted l (entry.Wrong n) d = within (with_wrong d) (kept item.Wrong (word n) d.wrong)
noted l (entry.Range b least most) d = within (with_ranges d)
    (kept_basin (item.Range b) (record { line = l; value = record { least = word least; most = word most } }) b d.ranges)
noted l (entry.Rate b rise fall) d = within (with_rates d)
    (kept_basin (item.Rate b) (record { line = l; value = record { rise = word rise; fall = word fall } }) b d.rates)
noted l (entry.Gauge a first second) d = noted_gauge d a (record { first = byte first; second = byte second })
noted l entry.Step d = Err NoItem
noted l (entry.Read a low high) d = Err NoItem
noted l entry.Show d = Err NoItem
noted l (entry.Alarm b limit) d = Err NoItem

abbrev pub NoteSays : ℕ → Entry → Draft → Draft → Outcome Unit → Type 0
NoteSays l e before after r = Turns (noted l e before) before after r
