-- Answers of which neither is less sure than the other are the same. Assumes nothing.
use Rattle.std.proofs.Common.{◌≡◌, Bool, true, false, sym, refl, ap, arith}
use Rattle.std.proofs.lemmas.Int.{ints}
use Rattle.shown.specs.declared.kinds.End.{End}
use Rattle.shown.specs.declared.kinds.End.TheVariants as end
use Rattle.shown.specs.declared.kinds.Span.{Span}
use Rattle.shown.specs.declared.kinds.Span.TheVariants as span
use Rattle.shown.specs.declared.kinds.Alarm.{Alarm}
use Rattle.shown.specs.declared.kinds.Alarm.TheVariants as alarm
use Rattle.shown.specs.declared.kinds.Answer.{Answer}
use Rattle.shown.specs.declared.kinds.Answer.TheVariants as answer
use Rattle.shown.specs.Law.{Below, Above, NotWider, AlarmKeeps, NotLessSure, SameAnswer}

same_upper : (c d : End) → Below c d → Below d c → c ≡ d
same_upper end.Open end.Open h k = refl
same_upper end.Open (end.At d) h k = absurd h
same_upper (end.At c) end.Open h k = absurd k
same_upper (end.At c) (end.At d) h k = ap end.At (omega (arith, ints))

same_lower : (c d : End) → Above c d → Above d c → c ≡ d
same_lower end.Open end.Open h k = refl
same_lower end.Open (end.At d) h k = absurd h
same_lower (end.At c) end.Open h k = absurd k
same_lower (end.At c) (end.At d) h k = ap end.At (omega (arith, ints))

same_span : (s t : Span) → NotWider s t → NotWider t s → s ≡ t
same_span span.Nothing span.Nothing h k = refl
same_span span.Nothing (span.Ends l u) h k = absurd k
same_span (span.Ends l u) span.Nothing h k = absurd h
same_span (span.Ends l u) (span.Ends m v) h k =
    let low = same_lower l m h.0 k.0 in
    let high = same_upper u v h.1 k.1 in
    λ i. span.Ends (low i) (high i)

same_alarm : (r s : Alarm) → AlarmKeeps r s → AlarmKeeps s r → r ≡ s
same_alarm alarm.Off s h k = sym h
same_alarm alarm.On alarm.Off h k = k
same_alarm alarm.On alarm.On h k = refl
same_alarm alarm.On alarm.Sure h k = absurd k
same_alarm alarm.Sure alarm.Off h k = k
same_alarm alarm.Sure alarm.On h k = absurd h
same_alarm alarm.Sure alarm.Sure h k = refl

same_truth : (a b : Bool) → (a ≡ true → b ≡ true) → (b ≡ true → a ≡ true) → a ≡ b
same_truth true b h k = sym (h refl)
same_truth false true h k = k refl
same_truth false false h k = refl

pub same_answer : (a b : Answer) → NotLessSure a b → NotLessSure b a → SameAnswer a b
same_answer (answer.Span s) (answer.Span t) h k = same_span s t k h
same_answer (answer.Names m) (answer.Names l) h k =
    (λ a. same_truth _ _ (h.0 a) (k.0 a), same_truth m.none l.none h.1 k.1)
same_answer (answer.Alarm r) (answer.Alarm s) h k = same_alarm r s h k
same_answer (answer.Span s) (answer.Names l) h k = absurd h
same_answer (answer.Span s) (answer.Alarm r) h k = absurd h
same_answer (answer.Names m) (answer.Span t) h k = absurd h
same_answer (answer.Names m) (answer.Alarm s) h k = absurd h
same_answer (answer.Alarm r) (answer.Span t) h k = absurd h
same_answer (answer.Alarm r) (answer.Names l) h k = absurd h
