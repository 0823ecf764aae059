-- The laws of what is answered: readings in another order, a further reading, and no sharper ends. Assumes nothing.
use Rattle.std.proofs.Common.{◌≡◌, List, [], ◌∷◌, ◌++◌, map, reverse, Ok, vec_items, vec_len, sym, ap, ◌∙◌, subst}
use mathlib.Core.List.{map-append, reverse_aux-append, reverse_aux-eq}
use Rattle.theory.specs.Possible.{Possible}
use Rattle.theory.specs.History as history
use Rattle.theory.proofs.Orders.{Carries, carries_reading, carries_exchanged}
use Rattle.zones.specs.Change.{reading_of}
use Rattle.plant.specs.declared.kinds.Event.{Event}
use Rattle.plant.specs.declared.kinds.Event.TheVariants as event
use Rattle.plant.specs.declared.kinds.GaugeReading.{GaugeReading}
use Rattle.plant.specs.declared.whole.Plant.{Plant}
use Rattle.plant.specs.Resolve.{placed_reading, resolve, resolved, start_of}
use Rattle.plant.proofs.Resolving.{resolved_more}
use Rattle.table.specs.declared.state.Observer.{Observer}
use Rattle.table.specs.Tracks.{Tracks}
use Rattle.shown.specs.declared.kinds.Request.{Request}
use Rattle.shown.specs.declared.kinds.Answer.{Answer}
use Rattle.shown.specs.Says.{TrueOf, ObservedSays}
use Rattle.shown.specs.Law.{Reordered, same, exchanged, NotLessSure}
use Rattle.shown.specs.Law.{OrderShowsSame, ReadingOnlySharpens, NoneSharper}
use Rattle.shown.proofs.Narrowing.{none_sharper_than, surer}
use Rattle.shown.proofs.Uniqueness.{same_answer}

-- ---- a plant's events, to the theory
module _ (p : Plant) where
  abbrev to_theory : Event → history.Event
  to_theory = resolve (vec_items p.rates) (vec_items p.gauges)

  abbrev reading : GaugeReading → history.Reading
  reading r = reading_of r.gauge (placed_reading (vec_items p.gauges) r)

  abbrev Leads : List Event → List Event → Type 0
  Leads es fs = Carries p.basins (start_of p) (resolved p es) (resolved p fs)

  resolved_within : (before after : List Event) (r s : GaugeReading) →
      resolved p (before ++ (event.Reading r ∷ event.Reading s ∷ after))
      ≡ resolved p after ++ (history.reads (reading s) ∷ history.reads (reading r) ∷ resolved p before)
  resolved_within before after r s =
      let a = history.reads (reading r) in let b = history.reads (reading s) in
      ap reverse (map-append to_theory before (event.Reading r ∷ event.Reading s ∷ after))
      ∙ reverse_aux-append (map to_theory before) (a ∷ b ∷ map to_theory after) []
      ∙ reverse_aux-eq (map to_theory after) (b ∷ a ∷ resolved p before)

  leads_exchanged : (before after : List Event) (r s : GaugeReading) →
      Leads (before ++ (event.Reading r ∷ event.Reading s ∷ after)) (before ++ (event.Reading s ∷ event.Reading r ∷ after))
  leads_exchanged before after r s =
      rw (resolved_within before after r s) (rw (resolved_within before after s r)
      (carries_exchanged p.basins (start_of p) (resolved p after) (resolved p before) (reading s) (reading r)))

  leads_reordered : {es fs : List Event} → Reordered es fs → Leads es fs × Leads fs es
  leads_reordered (same es) = (λ w x h. h, λ w x h. h)
  leads_reordered (exchanged before after fs r s k) =
      let rest = leads_reordered k in (
        λ w x h. rest.0 w x (leads_exchanged before after r s w x h),
        λ w x h. leads_exchanged before after s r w x (rest.1 w x h),
      )

  leads_back : (es : List Event) (r : GaugeReading) → Leads (es ++ (event.Reading r ∷ [])) es
  leads_back es r =
      rw (resolved_more p es (event.Reading r)) (carries_reading p.basins (start_of p) (resolved p es) (reading r))

-- ---- two observers of one plant
-- what the second answers is true of the plant as the first has it
of_same : (o v : Observer) (fs : List Event) (q : Request) (b : Answer) → o.plant ≡ v.plant → Tracks v fs →
    ObservedSays v q (Ok b) → TrueOf o.plant o.in_play fs q b
of_same o v fs q b e t says =
    let in_play : v.in_play ≡ o.in_play = v.known ∙ ap (λ p. vec_len p.gauges) (sym e) ∙ sym o.known in
    subst (λ p. TrueOf p o.in_play fs q b) (sym e) (subst (λ g. TrueOf v.plant g fs q b) in_play (says.1 fs t))

surer_led : (o : Observer) (es fs : List Event) (q : Request) (a b : Answer) → Leads o.plant fs es →
    TrueOf o.plant o.in_play es q a → TrueOf o.plant o.in_play fs q b → NotLessSure a b
surer_led o es fs q a b l =
    surer o.plant.basins o.in_play o.plant.wrong (start_of o.plant) (resolved o.plant es)
    (resolved o.plant fs) l q a b

pub order_shows_same : OrderShowsSame
order_shows_same o v es fs q a b e te tf re se sf =
    let l = leads_reordered o.plant re in
    let s = se.1 es te in
    let t = of_same o v fs q b e tf sf in
    same_answer a b (surer_led o es fs q a b l.1 s t) (surer_led o fs es q b a l.0 t s)

pub reading_only_sharpens : ReadingOnlySharpens
reading_only_sharpens o v es r q a b e te tf se sf =
    let fs : List Event = es ++ (event.Reading r ∷ []) in
    surer_led o es fs q a b (leads_back o.plant es r) (se.1 es te) (of_same o v fs q b e tf sf)

pub none_sharper : NoneSharper
none_sharper p g es q s low high =
    none_sharper_than (Possible p.basins g p.wrong (start_of p) (resolved p es)) q s low high
