-- Laws of what is answered, for every request. Each is a statement, whose proof is owed by a function that has it for its
-- contract. Assumes nothing.
use Rattle.std.specs.Prelude.{◌≡◌, ℕ, true, List, [], ◌∷◌, ◌++◌, ℤ, ◌≤ℤ◌, Ok}
use Rattle.theory.specs.Level.{Levels}
use Rattle.theory.specs.Possible.{Possible}
use Rattle.faults.specs.Sets.{gauge_set}
use Rattle.plant.specs.declared.kinds.Event.{Event}
use Rattle.plant.specs.declared.kinds.Event.TheVariants as event
use Rattle.plant.specs.declared.kinds.GaugeReading.{GaugeReading}
use Rattle.plant.specs.declared.whole.Plant.{Plant}
use Rattle.plant.specs.Resolve.{resolved, start_of}
use Rattle.table.specs.declared.state.Observer.{Observer}
use Rattle.table.specs.Tracks.{Tracks}
use Rattle.shown.specs.declared.kinds.End.{End}
use Rattle.shown.specs.declared.kinds.End.TheVariants as end
use Rattle.shown.specs.declared.kinds.Span.{Span}
use Rattle.shown.specs.declared.kinds.Span.TheVariants as span
use Rattle.shown.specs.declared.kinds.Alarm.{Alarm}
use Rattle.shown.specs.declared.kinds.Alarm.TheVariants as alarm
use Rattle.shown.specs.declared.kinds.Request.{Request}
use Rattle.shown.specs.declared.kinds.Answer.{Answer}
use Rattle.shown.specs.declared.kinds.Answer.TheVariants as answer
use Rattle.shown.specs.Meaning.{Exact}
use Rattle.shown.specs.Says.{ObservedSays}

-- ---- the order of readings
-- The same events, but for readings between two steps that came in another order: each exchange is of two readings that
-- follow one another.
pub data Reordered : List Event → List Event → Type 0 where
  same : (es : List Event) → Reordered es es
  exchanged :
      (before after fs : List Event) (r s : GaugeReading) →
      Reordered (before ++ (event.Reading s ∷ event.Reading r ∷ after)) fs →
      Reordered (before ++ (event.Reading r ∷ event.Reading s ∷ after)) fs

-- The same is shown.
abbrev pub SameAnswer : Answer → Answer → Type 0
SameAnswer (answer.Span s) (answer.Span t) = s ≡ t
SameAnswer (answer.Names m) (answer.Names k) = ((a : ℕ) → gauge_set m.gauges a ≡ gauge_set k.gauges a) × (m.none ≡ k.none)
SameAnswer (answer.Alarm r) (answer.Alarm s) = r ≡ s
SameAnswer (answer.Span s) (answer.Names m) = ⊥
SameAnswer (answer.Span s) (answer.Alarm r) = ⊥
SameAnswer (answer.Names m) (answer.Span s) = ⊥
SameAnswer (answer.Names m) (answer.Alarm r) = ⊥
SameAnswer (answer.Alarm r) (answer.Span s) = ⊥
SameAnswer (answer.Alarm r) (answer.Names m) = ⊥

-- Two observers of a plant that took the same readings in another order between two steps show the same.
abbrev pub OrderShowsSame : Type 0
OrderShowsSame =
    (o v : Observer) (es fs : List Event) (q : Request) (a b : Answer) →
    o.plant ≡ v.plant → Tracks o es → Tracks v fs → Reordered es fs →
    ObservedSays o q (Ok a) → ObservedSays v q (Ok b) → SameAnswer a b

-- ---- a further reading
-- An end that is not farther out.
abbrev pub Below : End → End → Type 0
Below x end.Open = Unit
Below (end.At c) (end.At d) = c ≤ℤ d
Below end.Open (end.At d) = ⊥

abbrev pub Above : End → End → Type 0
Above x end.Open = Unit
Above (end.At c) (end.At d) = d ≤ℤ c
Above end.Open (end.At d) = ⊥

-- A span that is not wider.
abbrev pub NotWider : Span → Span → Type 0
NotWider span.Nothing t = Unit
NotWider (span.Ends low high) span.Nothing = ⊥
NotWider (span.Ends low high) (span.Ends low' high') = Above low low' × Below high high'

-- What is shown after a further reading, beside what was shown before: no span is wider, no name and no 'no history' is
-- taken back. An alarm that was off stays off; a sure one stays so, or nothing is possible any more.
abbrev pub AlarmKeeps : Alarm → Alarm → Type 0
AlarmKeeps alarm.Off new = new ≡ alarm.Off
AlarmKeeps alarm.On new = Unit
AlarmKeeps alarm.Sure alarm.Off = Unit
AlarmKeeps alarm.Sure alarm.On = ⊥
AlarmKeeps alarm.Sure alarm.Sure = Unit

abbrev pub NotLessSure : Answer → Answer → Type 0
NotLessSure (answer.Span old) (answer.Span new) = NotWider new old
NotLessSure (answer.Names old) (answer.Names new) =
    ((a : ℕ) → gauge_set old.gauges a ≡ true → gauge_set new.gauges a ≡ true) × (old.none ≡ true → new.none ≡ true)
NotLessSure (answer.Alarm old) (answer.Alarm new) = AlarmKeeps old new
NotLessSure (answer.Span s) (answer.Names m) = ⊥
NotLessSure (answer.Span s) (answer.Alarm r) = ⊥
NotLessSure (answer.Names m) (answer.Span s) = ⊥
NotLessSure (answer.Names m) (answer.Alarm r) = ⊥
NotLessSure (answer.Alarm r) (answer.Span s) = ⊥
NotLessSure (answer.Alarm r) (answer.Names m) = ⊥

abbrev pub ReadingOnlySharpens : Type 0
ReadingOnlySharpens =
    (o v : Observer) (es : List Event) (r : GaugeReading) (q : Request) (a b : Answer) →
    o.plant ≡ v.plant → Tracks o es → Tracks v (es ++ (event.Reading r ∷ [])) →
    ObservedSays o q (Ok a) → ObservedSays v q (Ok b) → NotLessSure a b

-- ---- no ends that hold in every history are sharper
-- Every level of the set is within the ends.
abbrev pub Hold : (Levels → Type 0) → (Levels → ℤ) → (low high : End) → Type 0
Hold P q low high = (x : Levels) → P x → Above (end.At (q x)) low × Below (end.At (q x)) high

-- Of what is shown after a plant's events, of a level, a difference or any other quantity.
abbrev pub NoneSharper : Type 0
NoneSharper =
    (p : Plant) (g : ℕ) (es : List Event) (q : Levels → ℤ) (s : Span) (low high : End) →
    let P : Levels → Type 0 = Possible p.basins g p.wrong (start_of p) (resolved p es) in
    Exact s q P → Hold P q low high → NotWider s (span.Ends low high)
