-- How entries change the program's state. Assumes nothing: these are definitions.
use Rattle.std.specs.Prelude.{◌≡◌, ℕ, ◌^◌, Bool, true, false, List, [], length, ℤ, pos, negsuc, Some, None, Ok, Err, IsUtf8, Option, Result, MatchResult, nat_lt}
use Rattle.refusal.specs.Order.{when}
use Rattle.refusal.specs.declared.kinds.Refusal.{Refusal}
use Rattle.text.specs.Lines.{Parses}
use Rattle.text.specs.declared.entry.Format.TheVariants.{WithAlarms}
use Rattle.text.specs.declared.error.LineError.{LineError}
use Rattle.text.specs.declared.error.LineError.TheVariants.{NotText}
use Rattle.text.specs.declared.entry.Entry.{Entry}
use Rattle.text.specs.declared.entry.Entry.TheVariants.{Basins, Gauges, Wrong, Range, Rate, Gauge, Step, Read, Show, Alarm}
use Rattle.plant.specs.declared.kinds.Event.{Event}
use Rattle.plant.specs.declared.kinds.Event.TheVariants as event
use Rattle.plant.specs.Events.{event_refused}
use Rattle.draft.specs.declared.errors.PlantError.{PlantError}
use Rattle.draft.specs.declared.kinds.Draft.{Draft}
use Rattle.draft.specs.declared.errors.Stray.{Stray}
use Rattle.draft.specs.Finished.{PlantSays, past_count}
use Rattle.draft.specs.Noted.{Outcome}
use Rattle.draft.specs.Noted as draft
use Rattle.refusal.specs.declared.kinds.Refusal.TheVariants.{NoBasin}
use Rattle.shown.specs.Says.{AlarmSays}
use Rattle.shown.specs.declared.kinds.Alarm.{Alarm as Alarms}
use Rattle.table.specs.Says.{Begins, Takes}
use Rattle.table.specs.declared.state.Observer.{Observer}
use Rattle.observe.specs.declared.follower.Follower.{Follower}
use Rattle.observe.specs.declared.kinds.Answer.{Answer}
use Rattle.observe.specs.declared.kinds.Answer.TheVariants as answers
use Rattle.observe.specs.declared.kinds.Stage.{Stage}
use Rattle.observe.specs.declared.kinds.Stage.TheVariants.{Drafting, Following}
use Rattle.observe.specs.Counted.{lined, failed, strayed, noted}

-- An event or a request, with which the plant ends.
abbrev pub ends_plant : Entry → Bool
ends_plant (Basins n) = false
ends_plant (Gauges n) = false
ends_plant (Wrong n) = false
ends_plant (Range b l m) = false
ends_plant (Rate b r f) = false
ends_plant (Gauge g x y) = false
ends_plant Step = true
ends_plant (Read g l h) = true
ends_plant Show = true
ends_plant (Alarm b l) = true

-- ---- an observer
abbrev pub answer_of : Result Unit Refusal → Answer
answer_of (Ok u) = answers.Taken
answer_of (Err e) = answers.Refused e

-- A number that fits a u32, as those of gauges and basins do.
abbrev pub word_of : ℤ → Option ℕ
word_of (pos k) = when (nat_lt k (2 ^ 32)) k
word_of (negsuc k) = None

-- An event is taken, or refused, as by the first check that refuses it.
abbrev pub ByChecks : Option Refusal → Event → Observer → Answer → Observer → Type 0
ByChecks None e o a q = (a ≡ answers.Taken) × Takes e o q
ByChecks (Some x) e o a q = (a ≡ answers.Refused x) × (q ≡ o)

abbrev pub EventSays : Event → Observer → Answer → Observer → Type 0
EventSays e o a q = ByChecks (event_refused o.in_play o.steps e) e o a q

-- A reading of a number that no gauge has is refused as one of a gauge past the plant.
abbrev pub ReadSays : ℤ → Option ℕ → (low high : ℤ) → Observer → Answer → Observer → Type 0
ReadSays g None l h o a q = (a ≡ answers.NoGauge g) × (q ≡ o)
ReadSays g (Some k) l h o a q = EventSays (event.Reading (record { gauge = k; low = l; high = h })) o a q

-- An alarm is told of all events that the observer tracks. A number that no basin has is refused as a basin past the plant.
abbrev pub Rung : ℤ → ℤ → Result Alarms Refusal → Answer
Rung b l (Ok r) = answers.Rings b l r
Rung b l (Err e) = answers.Refused e

pub record RingsOf (b l : ℤ) (k : ℕ) (o : Observer) (a : Answer) : Type 0 where
  pub result : Result Alarms Refusal
  pub told : AlarmSays o k l result
  pub answer : a ≡ Rung b l result

abbrev pub RingSays : ℤ → Option ℕ → ℤ → Observer → Answer → Type 0
RingSays b None l o a = a ≡ answers.Refused NoBasin
RingSays b (Some k) l o a = RingsOf b l k o a

-- Nothing but an event changes an observer.
abbrev pub ObserveSays : Entry → Observer → Answer → Observer → Type 0
ObserveSays Step o a q = EventSays event.Step o a q
ObserveSays (Read g l h) o a q = ReadSays g (word_of g) l h o a q
ObserveSays Show o a q = (a ≡ answers.Shown) × (q ≡ o)
ObserveSays (Alarm b l) o a q = RingSays b (word_of b) l o a × (q ≡ o)
ObserveSays (Basins n) o a q = (a ≡ answers.Late) × (q ≡ o)
ObserveSays (Gauges n) o a q = (a ≡ answers.Late) × (q ≡ o)
ObserveSays (Wrong n) o a q = (a ≡ answers.Late) × (q ≡ o)
ObserveSays (Range b l m) o a q = (a ≡ answers.Late) × (q ≡ o)
ObserveSays (Rate b r f) o a q = (a ≡ answers.Late) × (q ≡ o)
ObserveSays (Gauge g x y) o a q = (a ≡ answers.Late) × (q ≡ o)

-- ---- the whole state
-- A line of the plant is kept, or is unfit and changes nothing.
abbrev pub DraftSays : Outcome Draft → Draft → Answer → Draft → Type 0
DraftSays (Ok x) d a t = (a ≡ answers.Taken) × (t ≡ x)
DraftSays (Err y) d a t = (a ≡ answers.Unfit y) × (t ≡ d)

-- An entry in the line of this number, with its answer. It never ends the plant.
abbrev pub EnterSays : ℕ → Entry → Stage → Answer → Stage → Type 0
EnterSays l e (Drafting d) a (Drafting t) = DraftSays (draft.noted l e d) d a t
EnterSays l e (Drafting d) a (Following q) = ⊥
EnterSays l e (Following o) a (Drafting t) = ⊥
EnterSays l e (Following o) a (Following q) = ObserveSays e o a q

-- The lines of the plant that count for nothing.
abbrev pub strays_of : Stage → List Stray
strays_of (Drafting d) = past_count d.basins d
strays_of (Following o) = []

-- The plant ends once, if its lines make one: then no event has been taken.
abbrev pub Begun : Stage → Stage → Type 0
Begun (Drafting d) (Drafting t) = ⊥
Begun (Drafting d) (Following q) = PlantSays d (Ok q.plant) × Begins q.plant q
Begun (Following o) s = s ≡ Following o

-- There is no plant, and nothing is changed.
abbrev pub Unbegun : Stage → PlantError → Stage → Type 0
Unbegun (Drafting d) e s = PlantSays d (Err e) × (s ≡ Drafting d)
Unbegun (Following o) e s = ⊥

abbrev pub BeginSays : Stage → Result Unit PlantError → Stage → Type 0
BeginSays before r after = MatchResult r (λ _. Begun before after) (λ e. Unbegun before e after)

-- ---- one line
-- The plant ends before an event or a request, and its stray lines are counted then.
abbrev pub Ready : Bool → Follower → Follower → Type 0
Ready true f m = Begun f.stage m.stage × (m.counts ≡ strayed (length (strays_of f.stage)) f.counts)
Ready false f m = (m.stage ≡ f.stage) × (m.counts ≡ f.counts)

-- An entry, of which `answer` is printed.
pub record Entered (e : Entry) (f g : Follower) : Type 0 where
  pub middle : Follower
  pub ready : Ready (ends_plant e) f middle
  pub answer : Answer
  pub stage : EnterSays middle.counts.lines e middle.stage answer g.stage
  pub counts : g.counts ≡ noted answer middle.counts

-- The state after a line that was read so; f has the line counted.
abbrev pub Answered : Result (Option Entry) LineError → Follower → Follower → Type 0
Answered (Ok None) f g = (g.stage ≡ f.stage) × (g.counts ≡ f.counts)
Answered (Ok (Some e)) f g = Entered e f g
Answered (Err x) f g = (g.stage ≡ f.stage) × (g.counts ≡ failed f.counts)

abbrev pub one_more : Follower → Follower
one_more f = record { counts = lined f.counts; stage = f.stage }

-- The state after a line of these bytes, which may be no text.
pub record LineSays (bytes : List ℕ) (f g : Follower) : Type 0 where
  pub reading : Result (Option Entry) LineError
  pub text : IsUtf8 bytes → Parses WithAlarms bytes reading
  pub other : (IsUtf8 bytes → ⊥) → reading ≡ Err NotText
  pub state : Answered reading (one_more f) g
