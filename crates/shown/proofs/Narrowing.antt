-- Over fewer levels nothing that is shown is wider or less sure. Assumes nothing.
use Rattle.std.proofs.Common.{◌≡◌, ℕ, true, List, ℤ, pos, negsuc, ◌+ℤ◌, ◌≤ℤ◌, ◌<ℤ◌, sym, refl, ◌∙◌, ⊎_elim, arith}
use Rattle.std.proofs.lemmas.Int.{ints}
use Rattle.std.proofs.lemmas.Bool.{false≢true, cases_lt}
use Rattle.theory.specs.Level.{Levels, Ranges, level, difference}
use Rattle.theory.specs.History as history
use Rattle.theory.specs.Possible.{Possible}
use Rattle.theory.proofs.Orders.{Carries, wrong_carried}
use Rattle.theory.proofs.Trajectories.{carried}
use Rattle.faults.specs.Sets.{gauge_set}
use Rattle.shown.specs.declared.kinds.End.{End}
use Rattle.shown.specs.declared.kinds.End.TheVariants as end
use Rattle.shown.specs.declared.kinds.Span.{Span}
use Rattle.shown.specs.declared.kinds.Span.TheVariants as span
use Rattle.shown.specs.declared.kinds.Alarm.{Alarm}
use Rattle.shown.specs.declared.kinds.Alarm.TheVariants as alarm
use Rattle.shown.specs.declared.kinds.Names.{Names}
use Rattle.shown.specs.declared.kinds.Request.{Request}
use Rattle.shown.specs.declared.kinds.Request.TheVariants as request
use Rattle.shown.specs.declared.kinds.Answer.{Answer}
use Rattle.shown.specs.declared.kinds.Answer.TheVariants as answer
use Rattle.shown.specs.Meaning.{Upper, Lower, Exact, Rings, Told, BySpan, ByNames, ByAlarm, Means}
use Rattle.shown.specs.Law.{Below, Above, NotWider, AlarmKeeps, NotLessSure, Hold}

-- ---- ends
module _ (P : Levels → Type 0) (q : Levels → ℤ) where
  below_holding : (c d : End) → Upper P q c → ((x : Levels) → P x → Below (end.At (q x)) d) → Below c d
  below_holding c end.Open u h = tt
  below_holding end.Open (end.At d) u h =
      let r = u (d +ℤ pos 1) in let k : (d +ℤ pos 1) ≤ℤ q r.0 = r.2 in let l = h r.0 r.1 in omega (arith, ints)
  below_holding (end.At c) (end.At d) u h =
      let r = u.reached in let k : q r.0 ≡ c = r.2 in let l = h r.0 r.1 in omega (arith, ints)

  above_holding : (c d : End) → Lower P q c → ((x : Levels) → P x → Above (end.At (q x)) d) → Above c d
  above_holding c end.Open u h = tt
  above_holding end.Open (end.At d) u h =
      let r = u (d +ℤ negsuc 0) in let k : q r.0 ≤ℤ (d +ℤ negsuc 0) = r.2 in let l = h r.0 r.1 in
      omega (arith, ints)
  above_holding (end.At c) (end.At d) u h =
      let r = u.reached in let k : q r.0 ≡ c = r.2 in let l = h r.0 r.1 in omega (arith, ints)

  -- no ends that hold are sharper than the exact ones
  pub none_sharper_than : (s : Span) (low high : End) → Exact s q P → Hold P q low high → NotWider s (span.Ends low high)
  none_sharper_than span.Nothing low high e h = tt
  none_sharper_than (span.Ends l k) low high e h =
      (above_holding l low e.0 (λ x p. (h x p).0), below_holding k high e.1 (λ x p. (h x p).1))

  -- exact ends hold
  upper_holds : (c : End) → Upper P q c → (x : Levels) → P x → Below (end.At (q x)) c
  upper_holds (end.At c) u x p = u.holds x p
  upper_holds end.Open u x p = tt

  lower_holds : (c : End) → Lower P q c → (x : Levels) → P x → Above (end.At (q x)) c
  lower_holds (end.At c) u x p = u.holds x p
  lower_holds end.Open u x p = tt

  some_levels : (c : End) → Lower P q c → (x : Levels) × P x
  some_levels (end.At c) u = (u.reached.0, u.reached.1)
  some_levels end.Open u = let r = u (pos 0) in (r.0, r.1)

-- ---- spans and alarms, of a quantity over a set and over a part of it
module _ (P Q : Levels → Type 0) (q : Levels → ℤ) (part : (x : Levels) → P x → Q x) where
  pub narrower : (s t : Span) → Exact s q P → Exact t q Q → NotWider s t
  narrower span.Nothing t e d = tt
  narrower (span.Ends l h) span.Nothing e d = let r = some_levels P q l e.0 in d r.0 (part r.0 r.1)
  narrower (span.Ends l h) (span.Ends low high) e d =
      none_sharper_than P q (span.Ends l h) low high e
      (λ x p. (lower_holds Q q low d.0 x (part x p), upper_holds Q q high d.1 x (part x p)))

  pub alarm_kept : (limit : ℤ) (old new : Alarm) → Rings old q Q limit → Rings new q P limit → AlarmKeeps old new
  alarm_kept limit alarm.Off alarm.Off d e = refl
  alarm_kept limit alarm.Off alarm.On d e =
      let r = e.0 in let k : limit <ℤ q r.0 = r.2 in let l = d r.0 (part r.0 r.1) in
      absurd (omega (arith, ints))
  alarm_kept limit alarm.Off alarm.Sure d e =
      let r = e.0 in let k = e.1 r.0 r.1 in let l = d r.0 (part r.0 r.1) in absurd (omega (arith, ints))
  alarm_kept limit alarm.On new d e = tt
  alarm_kept limit alarm.Sure alarm.Off d e = tt
  alarm_kept limit alarm.Sure alarm.On d e =
      let r = e.1 in let k : q r.0 ≤ℤ limit = r.2 in let l = d.1 r.0 (part r.0 r.1) in omega (arith, ints)
  alarm_kept limit alarm.Sure alarm.Sure d e = tt

-- ---- the kind of an answer
of_span : (S : Span → Type 0) (K : Answer → Type 0) → ((s : Span) → S s → K (answer.Span s)) →
    (a : Answer) → BySpan S a → K a
of_span S K k (answer.Span s) d = k s d
of_span S K k (answer.Names m) d = absurd d
of_span S K k (answer.Alarm r) d = absurd d

of_names : (S : Names → Type 0) (K : Answer → Type 0) → ((m : Names) → S m → K (answer.Names m)) →
    (a : Answer) → ByNames S a → K a
of_names S K k (answer.Span s) d = absurd d
of_names S K k (answer.Names m) d = k m d
of_names S K k (answer.Alarm r) d = absurd d

of_alarm : (S : Alarm → Type 0) (K : Answer → Type 0) → ((r : Alarm) → S r → K (answer.Alarm r)) →
    (a : Answer) → ByAlarm S a → K a
of_alarm S K k (answer.Span s) d = absurd d
of_alarm S K k (answer.Names m) d = absurd d
of_alarm S K k (answer.Alarm r) d = k r d

-- ---- what is answered, of events whose histories are among those of others
module _ (n g f : ℕ) (start : Ranges) (es fs : List history.Event) (c : Carries n start fs es) where
  possible_before : (x : Levels) → Possible n g f start fs x → Possible n g f start es x
  possible_before x = carried (λ w. c w x)

  name_kept : (old new : Names) → Told n g f start es old → Told n g f start fs new → (a : ℕ) →
      gauge_set old.gauges a ≡ true → gauge_set new.gauges a ≡ true
  name_kept old new d e a t =
      ⊎_elim (λ l. (e.gauges a l).1 (wrong_carried n g f start fs es a c ((d.gauges a l).0 t)))
      (λ l. absurd (false≢true (sym (d.others a l) ∙ t))) (cases_lt a g)

  span_kept : (q : Levels → ℤ) (a b : Answer) → BySpan (λ s. Exact s q (Possible n g f start es)) a →
      BySpan (λ s. Exact s q (Possible n g f start fs)) b → NotLessSure a b
  span_kept q a b d e =
      of_span (λ s. Exact s q (Possible n g f start es)) (λ a. NotLessSure a b) (λ s d.
      of_span (λ s. Exact s q (Possible n g f start fs)) (NotLessSure (answer.Span s)) (λ t e.
      narrower (Possible n g f start fs) (Possible n g f start es) q possible_before t s e d) b e) a d

  pub surer : (q : Request) (a b : Answer) → Means n g f start es q a → Means n g f start fs q b → NotLessSure a b
  surer (request.Basin i) a b d e = span_kept (level i) a b d e
  surer (request.Difference i j) a b d e = span_kept (λ x. difference x i j) a b d e
  surer request.Names a b d e =
      of_names (Told n g f start es) (λ a. NotLessSure a b) (λ old d.
      of_names (Told n g f start fs) (NotLessSure (answer.Names old)) (λ new e.
      (name_kept old new d e, λ t. e.none.1 (λ x p. d.none.0 t x (possible_before x p)))) b e) a d
  surer (request.Alarm i limit) a b d e =
      of_alarm (λ r. Rings r (level i) (Possible n g f start es) limit) (λ a. NotLessSure a b) (λ old d.
      of_alarm (λ r. Rings r (level i) (Possible n g f start fs) limit) (NotLessSure (answer.Alarm old)) (λ new e.
      alarm_kept (Possible n g f start fs) (Possible n g f start es) (level i) possible_before limit old new d e) b e) a d
