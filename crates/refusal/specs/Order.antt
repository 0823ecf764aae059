-- The order of checks: the first that applies decides. Assumes nothing: these are definitions.
use Rattle.std.specs.Prelude.{◌≡◌, ℕ, ◌+◌, Bool, true, false, cond, List, [], ◌∷◌, Some, None, Option, Result, MatchResult}
use Rattle.refusal.specs.declared.kinds.Refusal.{Refusal}
use Rattle.refusal.specs.declared.failure.Failure.{Failure}
use Rattle.refusal.specs.declared.failure.Failure.TheVariants.{Refused, NoMemory}

-- Refused if a test holds.
abbrev pub when : {A : Type 0} → Bool → A → Option A
when true x = Some x
when false x = None

-- The first of two findings.
abbrev pub or_else : {A : Type 0} → Option A → Option A → Option A
or_else (Some x) o = Some x
or_else None o = o

-- A check answers Ok where it finds nothing, else what it finds.
abbrev pub Found : {A : Type 0} → Result A Refusal → Option Refusal → Type 0
Found r finding = MatchResult r (λ _. finding ≡ None) (λ e. finding ≡ Some e)

-- A function that refuses answers by its checks: Ok with what holds then, where none refuses; else the first refusal, with
-- what is left then.
abbrev pub Answers : {A : Type 0} → Result A Refusal → Option Refusal → (A → Type 0) → Type 0 → Type 0
Answers r checks holds left = MatchResult r (λ a. (checks ≡ None) × holds a) (λ e. (checks ≡ Some e) × left)

-- Why nothing was made: the first refusal, or, where no check refuses, want of memory.
abbrev pub Fails : Option Refusal → Failure → Type 0
Fails checks (Refused e) = checks ≡ Some e
Fails checks NoMemory = checks ≡ None

-- A function that makes something answers by its checks: with what was made, where none refuses, or with why there is none.
abbrev pub Makes : {A : Type 0} → Result A Failure → Option Refusal → (A → Type 0) → Type 0
Makes r checks holds = MatchResult r (λ a. (checks ≡ None) × holds a) (Fails checks)

-- The index, counted from i, of the first element that fails a test.
abbrev pub first_bad : {A : Type 0} → (A → Bool) → ℕ → List A → Option ℕ
first_bad ok i [] = None
first_bad ok i (x ∷ xs) = cond (ok x) (first_bad ok (i + 1) xs) (Some i)

-- The first finding among the elements.
abbrev pub first_of : {A B : Type 0} → (A → Option B) → List A → Option B
first_of f [] = None
first_of f (x ∷ xs) = or_else (f x) (first_of f xs)
