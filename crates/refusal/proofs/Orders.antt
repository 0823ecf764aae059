-- What is known where none of the checks refuses. Assumes nothing.
use Rattle.std.proofs.Common.{◌≡◌, Some, None, Ok, Err, Option, Result, refl, ap, ◌∙◌, arith, MatchResult}
use Rattle.std.specs.Option.{option_map}
use Rattle.refusal.specs.declared.kinds.Refusal.{Refusal}
use Rattle.refusal.specs.Order.{or_else, Answers}

pub neither : {A : Type 0} (a b : Option A) → a ≡ None → b ≡ None → or_else a b ≡ None
neither a b e f = ap (λ v. or_else v b) e ∙ f

pub both_none : {A : Type 0} (a b : Option A) → or_else a b ≡ None → (a ≡ None) × (b ≡ None)
both_none None b e = (refl, e)
both_none (Some x) b e = grind arith

pub mapped_none : {A B : Type 0} (f : A → B) (o : Option A) → option_map f o ≡ None → o ≡ None
mapped_none f None e = refl
mapped_none f (Some x) e = grind arith

-- where nothing is refused, a function that never errs answers by its checks
pub never_errs : {A : Type 0} (r : Result A Refusal) (checks : Option Refusal) (holds : A → Type 0) (left : Type 0) →
    checks ≡ None → MatchResult r holds (λ _. ⊥) → Answers r checks holds left
never_errs (Ok a) checks holds left e h = (e, h)
never_errs (Err x) checks holds left e h = absurd h
