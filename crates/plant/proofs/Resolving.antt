-- One more event, to the theory. Assumes nothing.
use Rattle.std.proofs.Common.{◌≡◌, List, [], ◌∷◌, ◌++◌, map, reverse, vec_items, ap, ◌∙◌}
use mathlib.Core.List.{map-append, reverse-append}
use Rattle.plant.specs.declared.kinds.Event.{Event}
use Rattle.plant.specs.declared.whole.Plant.{Plant}
use Rattle.plant.specs.Resolve.{resolve, resolved}
use Rattle.theory.specs.History as history

-- the newest comes first
pub resolved_more : (p : Plant) (es : List Event) (e : Event) →
    resolved p (es ++ (e ∷ [])) ≡ resolve (vec_items p.rates) (vec_items p.gauges) e ∷ resolved p es
resolved_more p es e =
    let f : Event → history.Event = resolve (vec_items p.rates) (vec_items p.gauges) in
    ap reverse (map-append f es (e ∷ [])) ∙ reverse-append (map f es) (f e ∷ [])
