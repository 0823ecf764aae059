-- The first element that fails a test, as a search by position finds it; the first finding, as the turns of a loop do. Assumes
-- nothing.
use Rattle.std.proofs.Common.{◌≡◌, ℕ, zero, suc, ◌+◌, ◌<◌, ◌≤◌, Bool, true, false, cond, nat_lt, not, List, [], ◌∷◌, length, get_or, drop, Some, None, Option, sym, refl, ap, ◌∙◌, arith}
use Rattle.std.proofs.lemmas.List.{drop_more, drop_all}
use Rattle.std.specs.Fn.{Called}
use Rattle.std.specs.Iterator.{YieldsThen}
use Rattle.std.specs.List.{FoldsTo, position, position_or_len}
use Rattle.std.specs.Option.{MatchOption}
use Rattle.std.proofs.lemmas.Iterator.{YieldsList}
use Rattle.std.proofs.lemmas.Iterator.Search.{position_from_yields_List}
use Rattle.refusal.specs.Order.{or_else, first_bad, first_of}
use denote.Param.Members.{Mut}

passes : (b : Bool) (o : Option ℕ) (i : ℕ) → cond b o (Some i) ≡ None → (b ≡ true) × (o ≡ None)
passes true o i e = (refl, e)
passes false o i e = grind arith

-- where none fails, each passes
pub each : {A : Type 0} (ok : A → Bool) (i : ℕ) (xs : List A) (k : ℕ) (d : A) → first_bad ok i xs ≡ None → k < length xs →
    ok (get_or xs k d) ≡ true
each ok i [] k d e h = absurd (omega arith)
each ok i (x ∷ xs) zero d e h = (passes (ok x) (first_bad ok (i + 1) xs) i e).0
each ok i (x ∷ xs) (suc k) d e h = each ok (i + 1) xs k d (passes (ok x) (first_bad ok (i + 1) xs) i e).1 (omega arith)

-- ---- the first that fails a test is the first that passes its opposite
counted : (b : Bool) (o : Option ℕ) (i n m : ℕ) → o ≡ cond (nat_lt n m) (Some (i + 1 + n)) None →
    cond b o (Some i) ≡ cond (nat_lt (cond (not (not b)) (1 + n) 0) (suc m)) (Some (i + cond (not (not b)) (1 + n) 0)) None
counted true o i n m e = e ∙ grind arith
counted false o i n m e = grind arith

first_from : {A : Type 0} (ok : A → Bool) (i : ℕ) (xs : List A) → first_bad ok i xs
    ≡ cond (nat_lt (position_or_len (λ x. not (ok x)) xs) (length xs)) (Some (i + position_or_len (λ x. not (ok x)) xs)) None
first_from ok i [] = refl
first_from ok i (x ∷ xs) =
    counted (ok x) (first_bad ok (i + 1) xs) i (position_or_len (λ y. not (ok y)) xs) (length xs) (first_from ok (i + 1) xs)

first_position : {A : Type 0} (ok : A → Bool) (xs : List A) → first_bad ok 0 xs ≡ position (λ x. not (ok x)) xs
first_position ok xs = first_from ok 0 xs ∙ ap (λ k. cond (nat_lt (position_or_len (λ x. not (ok x)) xs) (length xs)) (Some k) None) (grind arith)

-- r is what `position` answered, of an iterator over all and a closure that tells which of them fail
pub first_found : {S A B F : Type 0} {steps : S → Option A → S → Type 0} {v : A → B} {g : Mut F (A × Unit {0}) Bool} {s : S}
    {all : List B} (ok : B → Bool) (u : S) (f : F) (r : Option ℕ) →
    (xs : List A) × (o : Option A) × (j : F) × YieldsThen steps s xs o u × FoldsTo (λ p x q. Called g p (x, tt) false q) f xs j
    × MatchOption o (r ≡ None) (λ x. (r ≡ Some (length xs)) × ((h : F) × Called g j (x, tt) true h)) →
    YieldsList steps v s all → ((x : A) (b : Bool) (q : F) → Called g f (x, tt) b q → (q ≡ f) × (b ≡ not (ok (v x)))) →
    first_bad ok 0 all ≡ r
first_found {all = all} ok u f r ran gives each =
    first_position ok all ∙ sym (position_from_yields_List (λ x. not (ok x)) u f r ran gives each)

-- ---- the turns of a loop for the first finding
module _ {A B : Type 0} (f : A → Option B) (xs : List A) where
  -- nothing is found below i
  abbrev pub Clear : ℕ → Type 0
  Clear i = first_of f xs ≡ first_of f (drop i xs)

  turn : (i : ℕ) (d : A) → i < length xs → Clear i → first_of f xs ≡ or_else (f (get_or xs i d)) (first_of f (drop (i + 1) xs))
  turn i d h inv = inv ∙ ap (first_of f) (drop_more xs i d h)

  -- something is found at i
  pub found_here : (i : ℕ) (d : A) (e : B) → i < length xs → Clear i → f (get_or xs i d) ≡ Some e → first_of f xs ≡ Some e
  found_here i d e h inv t = turn i d h inv ∙ ap (λ o. or_else o (first_of f (drop (i + 1) xs))) t

  -- nothing is found at i
  pub clear_next : (i : ℕ) (d : A) → i < length xs → Clear i → f (get_or xs i d) ≡ None → Clear (i + 1)
  clear_next i d h inv t = turn i d h inv ∙ ap (λ o. or_else o (first_of f (drop (i + 1) xs))) t

  -- nothing is found at all
  pub all_clear : (i : ℕ) → length xs ≤ i → Clear i → first_of f xs ≡ None
  all_clear i h inv = inv ∙ ap (first_of f) (drop_all i xs h)
