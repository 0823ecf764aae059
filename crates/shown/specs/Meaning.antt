-- What is shown, in terms of the levels that are possible. Assumes nothing: these are definitions.
use Rattle.std.specs.Prelude.{◌≡◌, ℕ, ◌<◌, ◌≤◌, false, List, ℤ, ◌≤ℤ◌, ◌<ℤ◌, Decides}
use Rattle.theory.specs.Level.{Levels, Ranges, level, difference}
use Rattle.theory.specs.History as history
use Rattle.theory.specs.Possible.{Possible, NonePossible, AlwaysWrong}
use Rattle.theory.specs.End.{Greatest, Least, UnboundedAbove, UnboundedBelow}
use Rattle.faults.specs.Sets.{gauge_set}
use Rattle.shown.specs.declared.kinds.End.{End}
use Rattle.shown.specs.declared.kinds.End.TheVariants as end
use Rattle.shown.specs.declared.kinds.Span.{Span}
use Rattle.shown.specs.declared.kinds.Span.TheVariants as span
use Rattle.shown.specs.declared.kinds.Alarm.{Alarm}
use Rattle.shown.specs.declared.kinds.Alarm.TheVariants as alarm
use Rattle.shown.specs.declared.kinds.Names.{Names}
use Rattle.shown.specs.declared.kinds.Request.{Request}
use Rattle.shown.specs.declared.kinds.Request.TheVariants as request
use Rattle.shown.specs.declared.kinds.Answer.{Answer}
use Rattle.shown.specs.declared.kinds.Answer.TheVariants as answer

-- ---- a quantity over a set of levels
-- An upper end: no levels of the set pass it, and some reach it; or there is none, and some are as far up as you like.
abbrev pub Upper : (Levels → Type 0) → (Levels → ℤ) → End → Type 0
Upper P q (end.At c) = Greatest P q c
Upper P q end.Open = UnboundedAbove P q

abbrev pub Lower : (Levels → Type 0) → (Levels → ℤ) → End → Type 0
Lower P q (end.At c) = Least P q c
Lower P q end.Open = UnboundedBelow P q

-- A span shows just what the quantity can be: nothing exactly where the set has no levels, else both ends.
abbrev pub Exact : Span → (Levels → ℤ) → (Levels → Type 0) → Type 0
Exact span.Nothing q P = (x : Levels) → P x → ⊥
Exact (span.Ends low high) q P = Lower P q low × Upper P q high

-- An alarm of a limit: off where nothing in the set is above it; sure where there is something, and all is above it; on where
-- some is above it and some is not.
abbrev pub Rings : Alarm → (Levels → ℤ) → (Levels → Type 0) → ℤ → Type 0
Rings alarm.Off q P limit = (x : Levels) → P x → q x ≤ℤ limit
Rings alarm.On q P limit = ((x : Levels) × P x × (limit <ℤ q x)) × ((x : Levels) × P x × (q x ≤ℤ limit))
Rings alarm.Sure q P limit = ((x : Levels) × P x) × ((x : Levels) → P x → limit <ℤ q x)

-- ---- what a request asks, of n basins and g gauges of which at most f are wrong, after events that began within a range
-- A gauge is named exactly if it is wrong in all histories; that there is no history is said exactly if there is none.
pub record Told (n g f : ℕ) (start : Ranges) (es : List history.Event) (m : Names) : Type 0 where
  pub gauges : (a : ℕ) → a < g → Decides (gauge_set m.gauges a) (AlwaysWrong n g f start es a)
  pub others : (a : ℕ) → g ≤ a → gauge_set m.gauges a ≡ false
  pub none : Decides m.none (NonePossible n g f start es)

-- The answer is a span, names or an alarm, with this meaning.
abbrev pub BySpan : (Span → Type 0) → Answer → Type 0
BySpan P (answer.Span s) = P s
BySpan P (answer.Names m) = ⊥
BySpan P (answer.Alarm r) = ⊥

abbrev pub ByNames : (Names → Type 0) → Answer → Type 0
ByNames P (answer.Span s) = ⊥
ByNames P (answer.Names m) = P m
ByNames P (answer.Alarm r) = ⊥

abbrev pub ByAlarm : (Alarm → Type 0) → Answer → Type 0
ByAlarm P (answer.Span s) = ⊥
ByAlarm P (answer.Names m) = ⊥
ByAlarm P (answer.Alarm r) = P r

abbrev pub Means : (n g f : ℕ) → Ranges → List history.Event → Request → Answer → Type 0
Means n g f start es (request.Basin b) = BySpan (λ s. Exact s (level b) (Possible n g f start es))
Means n g f start es (request.Difference b c) = BySpan (λ s. Exact s (λ x. difference x b c) (Possible n g f start es))
Means n g f start es request.Names = ByNames (Told n g f start es)
Means n g f start es (request.Alarm b limit) = ByAlarm (λ r. Rings r (level b) (Possible n g f start es) limit)
