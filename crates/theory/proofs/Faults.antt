-- Fault sets: how many gauges they have, and that the listed sets are just those of at most f gauges below g.
-- Assumes nothing.
use Rattle.std.proofs.Common.{◌≡◌, ℕ, zero, suc, ◌<◌, ◌≤◌, true, false, not, ◌&&◌, ◌||◌, eqb, List, [], ◌∷◌, ◌++◌, map, sym, refl, ap, ◌∙◌, subst, inl, inr, arith}
use mathlib.Core.Path.{fun_ext}
use Rattle.std.specs.List.{ContainsAt as Has, AllByRecursion}
use Rattle.std.proofs.ByRecursion.{All-append, All-map, All-weaker, all_has_itself}
use Rattle.std.proofs.lemmas.Bool.{cases_Bool}
use Rattle.std.proofs.lemmas.Bool.Decides.{nat_tests}
use Rattle.theory.specs.History.{FaultSet, count, AtMost}
use Rattle.theory.specs.Computed.{no_faults, with_fault, fault_sets}

-- ---- counting
-- A set within another has no more gauges.
pub count_less : (g : ℕ) (w v : FaultSet) → ((a : ℕ) → a < g → w a ≡ true → v a ≡ true) → count g w ≤ count g v
count_less zero w v h = omega arith
count_less (suc g) w v h =
    let here : w g ≡ true → v g ≡ true = h g (omega arith) in
    let below : count g w ≤ count g v = count_less g w v (λ a l. h a (omega arith)) in
    grind arith

-- Sets that agree below g have as many gauges below g.
pub count_same : (g : ℕ) (w v : FaultSet) → ((a : ℕ) → a < g → w a ≡ v a) → count g w ≡ count g v
count_same zero w v h = refl
count_same (suc g) w v h =
    let here : w g ≡ v g = h g (omega arith) in
    let below : count g w ≡ count g v = count_same g w v (λ a l. h a (omega arith)) in
    cc

-- A set within one of at most f gauges below g is such a set too.
pub at_most_within : (f g : ℕ) (w v : FaultSet) → ((a : ℕ) → w a ≡ true → v a ≡ true) → AtMost f g v → AtMost f g w
at_most_within f g w v h p = record {
  few = let l : count g w ≤ count g v = count_less g w v (λ a _. h a) in omega arith;
  known = λ a l. let e : v a ≡ false = p.known a l in let k : w a ≡ true → v a ≡ true = h a in grind arith;
}

pub at_most_same : (f g : ℕ) (w v : FaultSet) → ((a : ℕ) → w a ≡ v a) → AtMost f g w → AtMost f g v
at_most_same f g w v h p = at_most_within f g v w (λ a e. h a ∙ e) p

-- ---- the listed sets have at most f gauges, all below g
none_few : (f : ℕ) → AtMost f 0 no_faults
none_few f = record { few = omega arith; known = λ a l. refl }

-- One more gauge in play.
one_more : (f g : ℕ) (w : FaultSet) → AtMost f g w → AtMost f (suc g) w
one_more f g w p = record {
  few = let e : w g ≡ false = p.known g (omega arith) in let l : count g w ≤ f = p.few in grind arith;
  known = λ a l. p.known a (omega arith);
}

-- One more gauge in play, and in the set.
one_fault_more : (f g : ℕ) (w : FaultSet) → AtMost f g w → AtMost (suc f) (suc g) (with_fault g w)
one_fault_more f g w p = record {
  few =
      let e : count g (with_fault g w) ≡ count g w = count_same g (with_fault g w) w (λ a l. grind (arith, nat_tests)) in
      let l : count g w ≤ f = p.few in
      grind (arith, nat_tests);
  known = λ a l. let e : w a ≡ false = p.known a (omega arith) in grind (arith, nat_tests);
}

pub listed_few : (f g : ℕ) → AllByRecursion (AtMost f g) (fault_sets f g)
listed_few f zero = (none_few f, tt)
listed_few zero (suc g) = All-weaker (AtMost 0 g) (AtMost 0 (suc g)) (one_more 0 g) (fault_sets 0 g) (listed_few 0 g)
listed_few (suc f) (suc g) =
    All-append (AtMost (suc f) (suc g)) (fault_sets (suc f) g) (map (with_fault g) (fault_sets f g))
    (All-weaker (AtMost (suc f) g) (AtMost (suc f) (suc g)) (one_more (suc f) g) (fault_sets (suc f) g) (listed_few (suc f) g))
    (All-map (AtMost (suc f) (suc g)) (with_fault g) (fault_sets f g)
    (All-weaker (AtMost f g) (λ w. AtMost (suc f) (suc g) (with_fault g w)) (one_fault_more f g) (fault_sets f g)
    (listed_few f g)))

-- ---- every set of at most f gauges below g is listed
pub all_front : {X : Type 0} (P : X → Type 0) (xs ys : List X) → AllByRecursion P (xs ++ ys) → AllByRecursion P xs
all_front P [] ys h = tt
all_front P (x ∷ xs) ys h = (h.0, all_front P xs ys h.1)

pub all_back : {X : Type 0} (P : X → Type 0) (xs ys : List X) → AllByRecursion P (xs ++ ys) → AllByRecursion P ys
all_back P [] ys h = h
all_back P (x ∷ xs) ys h = all_back P xs ys h.1

pub all_before_map : {X Y : Type 0} (P : X → Type 0) (f : Y → X) (ys : List Y) → AllByRecursion P (map f ys) → AllByRecursion (λ y. P (f y)) ys
all_before_map P f [] h = tt
all_before_map P f (y ∷ ys) h = (h.0, all_before_map P f ys h.1)

-- The last gauge in play is not in the set.
one_less : (f g : ℕ) (v : FaultSet) → v g ≡ false → AtMost f (suc g) v → AtMost f g v
one_less f g v e m = record {
  few = let l : count (suc g) v ≤ f = m.few in grind arith;
  known = λ a l. let k : suc g ≤ a → v a ≡ false = m.known a in grind arith;
}

-- The last gauge in play is in the set, which without it has one gauge less.
abbrev without : ℕ → FaultSet → FaultSet
without b w a = not (eqb a b) && w a

one_fault_less : (f g : ℕ) (v : FaultSet) → v g ≡ true → AtMost (suc f) (suc g) v → AtMost f g (without g v)
one_fault_less f g v e m = record {
  few =
      let s : count g (without g v) ≡ count g v = count_same g (without g v) v (λ a l. grind (arith, nat_tests)) in
      let l : count (suc g) v ≤ suc f = m.few in
      grind arith;
  known = λ a l. let k : suc g ≤ a → v a ≡ false = m.known a in grind (arith, nat_tests);
}

with_without : (g : ℕ) (v : FaultSet) → v g ≡ true → (a : ℕ) → with_fault g (without g v) a ≡ v a
with_without g v e a = grind (arith, nat_tests)

-- What respects the gauges of a set, and holds of all listed sets, holds of every set of at most f gauges below g. Without
-- its last gauge, where that is in it, the set is one of those to which the list adds this gauge.
pub of_listed :
    (P : FaultSet → Type 0) → ((w v : FaultSet) → ((a : ℕ) → w a ≡ v a) → P w → P v) →
    (f g : ℕ) → AllByRecursion P (fault_sets f g) → (v : FaultSet) → AtMost f g v → P v
of_listed P same f zero h v m = same no_faults v (λ a. sym (m.known a (omega arith))) h.0
of_listed P same zero (suc g) h v m = of_listed P same zero g h v (one_less zero g v (grind (arith, m.few)) m)
of_listed P same (suc f) (suc g) h v m =
    let old : List FaultSet = fault_sets (suc f) g in
    let less : List FaultSet = fault_sets f g in
    let more : AllByRecursion P (map (with_fault g) less) = all_back P old (map (with_fault g) less) h in
    elim (cases_Bool (v g)) [
      | inl e ↦ same (with_fault g (without g v)) v (with_without g v e)
          (of_listed (λ w. P (with_fault g w)) (λ w u d. same (with_fault g w) (with_fault g u)
          (λ a. ap (λ t. eqb a g || t) (d a)))
          f g (all_before_map P (with_fault g) less more) (without g v) (one_fault_less f g v e m))
      | inr e ↦ of_listed P same (suc f) g (all_front P old (map (with_fault g) less) h) v (one_less (suc f) g v e m)
    ]

-- Each such set is listed.
pub listed_all : (f g : ℕ) (v : FaultSet) → AtMost f g v → Has (fault_sets f g) v
listed_all f g =
    let sets : List FaultSet = fault_sets f g in
    of_listed (Has sets) (λ w v e. subst (Has sets) (fun_ext e)) f g (all_has_itself sets)
