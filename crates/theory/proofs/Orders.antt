-- What one list of events leaves possible beside another: exchanged readings, and a further one. Assumes nothing.
use Rattle.std.proofs.Common.{ℕ, List, [], ◌∷◌, ◌++◌}
use Rattle.theory.specs.Level.{Levels, Ranges}
use Rattle.theory.specs.History.{Reading, Event, step, reads, FaultSet, History, moved, agreed}
use Rattle.theory.specs.Possible.{AlwaysWrong}
use Rattle.theory.proofs.Keep.{before_step, before_reading}
use Rattle.theory.proofs.Trajectories.{wrong_or_blamed}

-- Each history for the first events ends as one for the second, with the same set.
abbrev pub Carries : ℕ → Ranges → (es fs : List Event) → Type 0
Carries n start es fs = (w : FaultSet) (x : Levels) → History n start w es x → History n start w fs x

-- ---- what carries
pub carries_reading : (n : ℕ) (start : Ranges) (es : List Event) (r : Reading) → Carries n start (reads r ∷ es) es
carries_reading n start es r w x h = (before_reading h).0

-- whatever comes later
pub carries_later :
    (n : ℕ) (start : Ranges) (later es fs : List Event) → Carries n start es fs →
    Carries n start (later ++ es) (later ++ fs)
carries_later n start [] es fs c w x h = c w x h
carries_later n start (step r ∷ later) es fs c w y h =
    let b = before_step h in moved b.0 y r (later ++ fs) (carries_later n start later es fs c w b.0 b.1) b.2
carries_later n start (reads r ∷ later) es fs c w x h =
    let b = before_reading h in agreed x r (later ++ fs) (carries_later n start later es fs c w x b.0) b.1

-- two readings with no step between them
pub carries_exchanged :
    (n : ℕ) (start : Ranges) (later es : List Event) (r s : Reading) →
    Carries n start (later ++ (reads r ∷ reads s ∷ es)) (later ++ (reads s ∷ reads r ∷ es))
carries_exchanged n start later es r s =
    carries_later n start later (reads r ∷ reads s ∷ es) (reads s ∷ reads r ∷ es) (λ w x h.
    let b = before_reading h in
    let c = before_reading b.0 in
    agreed x s (reads r ∷ es) (agreed x r es c.0 b.1) c.1)

-- ---- a gauge that is wrong in all histories stays so
pub wrong_carried :
    (n g f : ℕ) (start : Ranges) (es fs : List Event) (a : ℕ) → Carries n start es fs →
    AlwaysWrong n g f start fs a → AlwaysWrong n g f start es a
wrong_carried n g f start es fs a c always =
    ((wrong_or_blamed n g f start es).1 a).1 (λ x p.
    ((wrong_or_blamed n g f start fs).1 a).0 always x
    record { faults = p.faults; few = p.few; history = c p.faults x p.history })
