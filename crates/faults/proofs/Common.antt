-- The gauges that are in all of a list of sets. Assumes nothing.
use mathlib.Core.Path.{◌≡◌, sym, ◌∙◌}
use mathlib.Core.Bool.{true, ◌&&◌}
use mathlib.Core.List.{List, [], ◌∷◌, ◌++◌}
use Prim.Native.Nat.{ℕ}
use Rattle.std.proofs.ByRecursion.{All-push}
use Rattle.std.proofs.lemmas.Bool.{and_from, and_parts}
use Rattle.theory.proofs.Faults.{all_front, all_back}
use Rattle.faults.specs.declared.set.FaultSet.{FaultSet}
use Rattle.faults.specs.Sets.{gauge_set, Common}

abbrev InBoth : (r s t : FaultSet) → Type 0
InBoth r s t = (a : ℕ) → gauge_set r a ≡ (gauge_set s a && gauge_set t a)

-- One set more.
pub common_push : (g : ℕ) (xs : List FaultSet) (s t r : FaultSet) → Common g xs s → InBoth r s t → Common g (xs ++ t ∷ []) r
common_push g xs s t r h both a =
    let P : FaultSet → Type 0 = λ u. gauge_set u a ≡ true in (
      λ e.
          let parts = and_parts (gauge_set s a) (gauge_set t a) (sym (both a) ∙ e) in
          let old = (h a).0 parts.0 in
          (old.0, old.1, All-push P xs t old.2 parts.1),
      λ k.
          let old = (h a).1 (k.0, k.1, all_front P xs (t ∷ []) k.2) in
          both a ∙ and_from (gauge_set s a) (gauge_set t a) old (all_back P xs (t ∷ []) k.2).0,
    )
