-- Rows of events, event by event. Assumes nothing.
use Rattle.std.proofs.Common.{◌≡◌, ℕ, ◌+◌, ◌<◌, ◌≤◌, Bool, true, false, cond, filter, List, [], ◌∷◌, ◌++◌, length, get_or, drop, is_some, Some, None, Option, option_map, inl, inr, sym, rules, ltb, refl, ap, ◌∙◌, arith}
use Rattle.std.proofs.lemmas.List.{drop_more}
use Rattle.std.proofs.lemmas.Option.{slice_get_cases, slice_get_within}
use Rattle.std.specs.List.{slice_get}
use Rattle.plant.specs.declared.kinds.Event.{Event}
use Rattle.plant.specs.declared.kinds.Event.TheVariants as event
use Rattle.std.proofs.lemmas.Bool.Decides.{nat_tests}
use Rattle.refusal.specs.declared.kinds.Refusal.{Refusal}
use Rattle.refusal.specs.Order.{first_of}
use Rattle.refusal.proofs.Orders.{both_none, neither}
use Rattle.plant.specs.Events.{gauge_refused, ends_refused, reading_refused, event_refused, step_count, steps_in, of_reading}
use Rattle.plant.specs.Events.{readings_refused, steps_refused, taken}

abbrev pub is_step : Event → Bool
is_step event.Step = true
is_step (event.Reading r) = false

-- the steps are the events that are steps
pub steps_counted : (es : List Event) → length (filter is_step es) ≡ steps_in es
steps_counted [] = refl
steps_counted (event.Step ∷ es) = omega (arith, steps_counted es)
steps_counted (event.Reading r ∷ es) = omega (arith, steps_counted es)

-- there is a step with number k among them exactly if there are more than k
pub step_there : {A : Type 0} (v : A → Event) (r : Option A) (k : ℕ) (es : List Event) →
    option_map v r ≡ slice_get (filter is_step es) k → is_some r ≡ ltb k (steps_in es)
step_there v (Some x) k es e =
    let h = slice_get_within (filter is_step es) k (v x) (sym e) in
    grind (arith, nat_tests, steps_counted es)
step_there v None k es e = elim (slice_get_cases (filter is_step es) k).1 [
  | inl w ↦ let here = w.2 in cc
  | inr w ↦ let h = w.0 in grind (arith, nat_tests, steps_counted es)
]

-- one event more at the end
pub steps_push : (es : List Event) (e : Event) → steps_in (es ++ (e ∷ [])) ≡ steps_in es + step_count e
steps_push [] e = omega arith
steps_push (d ∷ es) e = omega (arith, steps_push es e)

-- ---- taken one by one
-- the event at i is refused, or taken
pub taken_skip : (g k i : ℕ) (es : List Event) (d : Event) (r : Refusal) → i < length es →
    event_refused g k (get_or es i d) ≡ Some r → taken g k (drop i es) ≡ taken g k (drop (i + 1) es)
taken_skip g k i es d r h e =
    ap (taken g k) (drop_more es i d h)
    ∙ ap (λ o. cond (is_some o) (taken g k (drop (i + 1) es))
    (get_or es i d ∷ taken g (k + step_count (get_or es i d)) (drop (i + 1) es))) e

pub taken_more : (g k i : ℕ) (es : List Event) (d : Event) → i < length es → event_refused g k (get_or es i d) ≡ None →
    taken g k (drop i es) ≡ get_or es i d ∷ taken g (k + step_count (get_or es i d)) (drop (i + 1) es)
taken_more g k i es d h e =
    ap (taken g k) (drop_more es i d h)
    ∙ ap (λ o. cond (is_some o) (taken g k (drop (i + 1) es))
    (get_or es i d ∷ taken g (k + step_count (get_or es i d)) (drop (i + 1) es))) e

-- of a row that is not refused all events are taken
pub taken_all : (g k : ℕ) (es : List Event) → readings_refused g es ≡ None → k + steps_in es ≤ 1000000 → taken g k es ≡ es
taken_all g k [] e h = refl
taken_all g k (event.Step ∷ es) e h =
    let t : event_refused g k event.Step ≡ None = grind (arith, nat_tests) in
    ap (λ o. cond (is_some o) (taken g k es) (event.Step ∷ taken g (k + 1) es)) t
    ∙ ap (λ l. event.Step ∷ l) (taken_all g (k + 1) es e (omega arith))
taken_all g k (event.Reading r ∷ es) e h =
    let both = both_none (first_of (of_reading (gauge_refused g)) (event.Reading r ∷ es)) _ e in
    let a = both_none (gauge_refused g r) _ both.0 in
    let b = both_none (ends_refused r) _ both.1 in
    let t : reading_refused g r ≡ None = neither _ _ a.0 b.0 in
    ap (λ o. cond (is_some o) (taken g k es) (event.Reading r ∷ taken g (k + 0) es)) t
    ∙ ap (λ l. event.Reading r ∷ l) (ap (λ j. taken g j es) (omega arith)
    ∙ taken_all g k es (neither _ _ a.1 b.1) (omega arith))

pub steps_few : (es : List Event) → steps_refused es ≡ None → steps_in es ≤ 1000000
steps_few es e = grind (arith, nat_tests)
