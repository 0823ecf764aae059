-- What each public function answers: what it refuses, with the numbers as they were, and what it leaves otherwise.
-- Assumes nothing: these are definitions.
use Rattle.std.specs.Prelude.{◌≡◌, ℕ, Bool, List, length, ℤ, Result}
use Rattle.refusal.specs.Order.{Answers}
use Rattle.refusal.specs.declared.kinds.Refusal.{Refusal}
use Rattle.zones.specs.declared.kinds.Range.{Range}
use Rattle.zones.specs.declared.kinds.Rate.{Rate}
use Rattle.zones.specs.declared.kinds.Reading.{Reading}
use Rattle.zones.specs.Checks.{size_refused, first_refused, step_refused, meet_refused}
use Rattle.zones.specs.Numbers.{Closes, ClosesFar, TellsEmpty}
use Rattle.zones.specs.Change.{Starts, Steps, StepsFar, Reads, ReadsFar}

-- Numbers xs before and ys after, with the answer r between them.
abbrev pub CloseSays : ℕ → List ℤ → Result Unit Refusal → List ℤ → Type 0
CloseSays n xs r ys = Answers r (size_refused n (length xs)) (λ _. Closes n xs ys) (ys ≡ xs)

abbrev pub EmptySays : ℕ → List ℤ → Result Bool Refusal → Type 0
EmptySays n xs r = Answers r (size_refused n (length xs)) (λ empty. TellsEmpty n xs empty) Unit

abbrev pub FirstSays : ℕ → List Range → List ℤ → Result Unit Refusal → List ℤ → Type 0
FirstSays n rs xs r ys = Answers r (first_refused n (length xs) rs) (λ _. Starts n rs ys) (ys ≡ xs)

abbrev pub StepSays : ℕ → List Rate → List ℤ → Result Unit Refusal → List ℤ → Type 0
StepSays n rs xs r ys = Answers r (step_refused n (length xs) rs) (λ _. Steps n rs xs ys) (ys ≡ xs)

abbrev pub MeetSays : ℕ → Reading → List ℤ → Result Unit Refusal → List ℤ → Type 0
MeetSays n reading xs r ys = Answers r (meet_refused n (length xs) reading) (λ _. Reads n reading xs ys) (ys ≡ xs)

-- The same for larger numbers, and for a step from whatever bounds there are.
abbrev pub CloseSaysFar : ℕ → List ℤ → Result Unit Refusal → List ℤ → Type 0
CloseSaysFar n xs r ys = Answers r (size_refused n (length xs)) (λ _. ClosesFar n xs ys) (ys ≡ xs)

abbrev pub StepSaysFar : ℕ → List Rate → List ℤ → Result Unit Refusal → List ℤ → Type 0
StepSaysFar n rs xs r ys = Answers r (step_refused n (length xs) rs) (λ _. StepsFar n rs xs ys) (ys ≡ xs)

abbrev pub MeetSaysFar : ℕ → Reading → List ℤ → Result Unit Refusal → List ℤ → Type 0
MeetSaysFar n reading xs r ys = Answers r (meet_refused n (length xs) reading) (λ _. ReadsFar n reading xs ys) (ys ≡ xs)
