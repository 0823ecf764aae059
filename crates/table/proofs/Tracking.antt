-- What an observer tracks, one event later. Assumes nothing.
use Rattle.std.proofs.Common.{◌≡◌, ℕ, ◌+◌, ◌<◌, ◌≤◌, true, false, List, [], ◌∷◌, ◌++◌, length, get_or, drop, ℤ, is_ok, Some, None, Ok, Err, vec_items, Result, sym, refl, ap, ◌∙◌, subst, append_assoc, append-nil, arith}
use Rattle.std.proofs.lemmas.List.{length-append, drop_all}
use Rattle.std.proofs.lemmas.Bool.{true≢false, false≢true}
use Rattle.theory.specs.History as history
use Rattle.refusal.specs.declared.kinds.Refusal.{Refusal}
use Rattle.faults.specs.Sets.{gauge_set}
use Rattle.plant.specs.declared.kinds.Event.{Event}
use Rattle.plant.specs.declared.kinds.Event.TheVariants as event
use Rattle.plant.specs.declared.kinds.GaugeReading.{GaugeReading}
use Rattle.plant.specs.Events.{event_refused, steps_in, step_count, taken}
use Rattle.plant.specs.Resolve.{placed_reading, resolved, start_of}
use Rattle.plant.proofs.Resolving.{resolved_more}
use Rattle.plant.proofs.Rows.{steps_push, taken_more, taken_skip}
use Rattle.table.specs.declared.state.Observer.{Observer}
use Rattle.table.specs.Parts.{part, AllStep, AllRead}
use Rattle.table.specs.Tracks.{Follows, Tracks}
use Rattle.table.specs.Says.{Takes, TakesAll, TakeSays}
use Rattle.table.proofs.Following.{follows_step, follows_heeds}

module _ (o : Observer) (es : List Event) (t : Tracks o es) (ts : List ℤ) where
  -- every zone follows, with numbers ts in the table
  abbrev Followed : ℕ → List history.Event → Type 0
  Followed steps hs =
      (k : ℕ) → k < length (vec_items o.sets) →
      Follows o.plant.basins steps (start_of o.plant) (gauge_set (get_or (vec_items o.sets) k (record { bits = 0 })))
      hs (part o.plant.basins k ts)

  pub step_followed :
      AllStep o.plant.basins (vec_items o.plant.rates) (length (vec_items o.sets)) (vec_items o.table) ts →
      Followed (o.steps + 1) (resolved o.plant (es ++ (event.Step ∷ [])))
  step_followed all = subst (Followed (o.steps + 1)) (sym (resolved_more o.plant es event.Step))
      (λ k h. follows_step o.plant.basins o.steps (start_of o.plant) _ (resolved o.plant es)
      (part o.plant.basins k (vec_items o.table)) (part o.plant.basins k ts) (t.follows k h) o.counted
      (vec_items o.plant.rates) (all k h))

  pub read_followed : (r : GaugeReading) →
      AllRead o.plant.basins (placed_reading (vec_items o.plant.gauges) r) r.gauge (vec_items o.sets)
      (vec_items o.table) ts → Followed o.steps (resolved o.plant (es ++ (event.Reading r ∷ [])))
  read_followed r all = subst (Followed o.steps) (sym (resolved_more o.plant es (event.Reading r)))
      (λ k h. follows_heeds o.plant.basins o.steps (start_of o.plant)
      (get_or (vec_items o.sets) k (record { bits = 0 })) (resolved o.plant es)
      (part o.plant.basins k (vec_items o.table)) (part o.plant.basins k ts)
      (placed_reading (vec_items o.plant.gauges) r) r.gauge (t.follows k h) o.counted (all k h))

  pub more_counted : (e : Event) → o.steps + step_count e ≡ steps_in (es ++ (e ∷ []))
  more_counted e = ap (λ k. k + step_count e) t.counted ∙ sym (steps_push es e)

-- ---- a list of events, event by event: what was taken of the first i is tracked, and the rest is still to be taken
pub record Underway (o q : Observer) (count i : ℕ) (events : List Event) : Type 0 where
  pub plant : q.plant ≡ o.plant
  pub in_play : q.in_play ≡ o.in_play
  pub done : List Event
  pub counted : count ≡ length done
  pub few : count ≤ i
  pub split : taken o.in_play o.steps events ≡ done ++ taken o.in_play q.steps (drop i events)
  pub tracks : (es : List Event) → Tracks o es → Tracks q (es ++ done)

pub underway_none : (o : Observer) (events : List Event) → Underway o o 0 0 events
underway_none o events = record {
  plant = refl;
  in_play = refl;
  done = [];
  counted = refl;
  few = omega arith;
  split = refl;
  tracks = λ es t. subst (Tracks o) (sym (append-nil es)) t;
}

module _ (o q : Observer) (count i : ℕ) (events : List Event) (u : Underway o q count i events) (d : Event)
    (within : i < length events) where
  pub underway_skip : (r : Refusal) (q' : Observer) → event_refused q.in_play q.steps (get_or events i d) ≡ Some r →
      q' ≡ q → Underway o q' count (i + 1) events
  underway_skip r q' e same = subst (λ v. Underway o v count (i + 1) events) (sym same) record {
    plant = u.plant;
    in_play = u.in_play;
    done = u.done;
    counted = u.counted;
    few = omega (arith, u.few);
    split = u.split ∙ ap (λ l. u.done ++ l) (taken_skip o.in_play q.steps i events d r within
        (subst (λ g. event_refused g q.steps (get_or events i d) ≡ Some r) u.in_play e));
    tracks = u.tracks;
  }

  pub underway_more : (q' : Observer) → event_refused q.in_play q.steps (get_or events i d) ≡ None →
      Takes (get_or events i d) q q' → Underway o q' (count + 1) (i + 1) events
  underway_more q' e t = record {
    plant = t.plant ∙ u.plant;
    in_play = t.in_play ∙ u.in_play;
    done = u.done ++ (get_or events i d ∷ []);
    counted = omega (arith, u.counted, length-append u.done (get_or events i d ∷ []));
    few = omega (arith, u.few);
    split = u.split
        ∙ ap (λ l. u.done ++ l) (taken_more o.in_play q.steps i events d within
        (subst (λ g. event_refused g q.steps (get_or events i d) ≡ None) u.in_play e))
        ∙ sym (append_assoc u.done (get_or events i d ∷ []) (taken o.in_play (q.steps + step_count (get_or events i d)) (drop (i + 1) events)))
        ∙ ap (λ k. (u.done ++ (get_or events i d ∷ [])) ++ taken o.in_play k (drop (i + 1) events)) (sym t.steps);
    tracks = λ es s. subst (Tracks q') (append_assoc es u.done (get_or events i d ∷ []))
        (t.tracks (es ++ u.done) (u.tracks es s));
  }

pub underway_all : (o q : Observer) (count i : ℕ) (events : List Event) → Underway o q count i events → length events ≤ i →
    TakesAll events o count q
underway_all o q count i events u h =
    let all : taken o.in_play o.steps events ≡ u.done =
    u.split ∙ ap (λ l. u.done ++ taken o.in_play q.steps l) (drop_all i events h) ∙ append-nil u.done in
    record {
      plant = u.plant;
      in_play = u.in_play;
      counted = u.counted ∙ ap length (sym all);
      tracks = λ es t. subst (λ l. Tracks q (es ++ l)) (sym all) (u.tracks es t);
    }

-- what an entry answers, by whether it took the event
module _ (e : Event) (o q : Observer) where
  pub when_taken : (r : Result Unit Refusal) → TakeSays e o r q → is_ok r ≡ true →
      (event_refused o.in_play o.steps e ≡ None) × Takes e o q
  when_taken (Ok a) s t = s
  when_taken (Err x) s t = absurd (false≢true t)

  pub when_refused : (r : Result Unit Refusal) → TakeSays e o r q → is_ok r ≡ false →
      (x : Refusal) × (event_refused o.in_play o.steps e ≡ Some x) × (q ≡ o)
  when_refused (Ok a) s t = absurd (true≢false t)
  when_refused (Err x) s t = (x, s.0, s.1)
