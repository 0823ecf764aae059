-- The listed sets and the sets of the theory. Assumes nothing.
use Rattle.std.proofs.Common.{◌≡◌, ℕ, ◌^◌, ◌<◌, List, get_or, sym, ap, ◌∙◌, subst, inl, inr, mod-eq_of_lt, arith}
use lib.Count.{ones}
use Rattle.std.specs.List.{ContainsAt as Has, AllByRecursion}
use Rattle.std.proofs.ByRecursion.{All-get_or, all-has, All-weaker}
use Rattle.std.proofs.lemmas.Bool.{cases_lt}
use Rattle.theory.specs.History as history
use Rattle.theory.specs.History.{count, AtMost}
use Rattle.theory.proofs.Faults.{count_same}
use Rattle.theory.proofs.Trajectories.{same_history}
use Rattle.faults.specs.declared.set.FaultSet.{FaultSet}
use Rattle.faults.specs.Sets.{gauge_set, size, Few, Lists}
use Rattle.faults.specs.Represents.{Agree, AgreeBelow, SameHistories, Represented, Represents}
use Rattle.faults.proofs.Bits.{bit_past, count_bits, number, number_below, number_bits, number_same, bit_number}
use Rattle.faults.proofs.Order.{numbered, one_place}

-- ---- from a set to the theory's and back
-- A set below 2 to the g has as many ones as gauges below g.
size_counted : (g : ℕ) (s : FaultSet) → s.bits < 2 ^ g → count g (gauge_set s) ≡ size s
size_counted g s h = count_bits g s.bits ∙ ap ones (mod-eq_of_lt h)

pub few_gauges : (f g : ℕ) (s : FaultSet) → Few f g s → AtMost f g (gauge_set s)
few_gauges f g s h = record {
  few = let e : count g (gauge_set s) ≡ size s = size_counted g s h.0 in omega arith;
  known = λ a l. bit_past s.bits g a h.0 l;
}

-- The set with the gauges of v below g.
abbrev pub set_of : ℕ → history.FaultSet → FaultSet
set_of g v = numbered (number g v)

pub set_agrees : (f g : ℕ) (v : history.FaultSet) → AtMost f g v → Agree (gauge_set (set_of g v)) v
set_agrees f g v h a =
    elim (cases_lt a g) [
      | inl l ↦ bit_number g v a l
      | inr l ↦ bit_past (number g v) g a (number_below g v) l ∙ sym (h.known a l)
    ]

pub set_few : (f g : ℕ) (v : history.FaultSet) → AtMost f g v → Few f g (set_of g v)
set_few f g v h =
    let e : count g (gauge_set (set_of g v)) ≡ size (set_of g v) = size_counted g (set_of g v) (number_below g v) in
    let same : count g (gauge_set (set_of g v)) ≡ count g v = count_same g (gauge_set (set_of g v)) v (bit_number g v) in
    (number_below g v, omega (arith, h.few))

-- A set below 2 to the g is known by its gauges below g.
pub set_unique :
    (g : ℕ) (s : FaultSet) (v : history.FaultSet) → s.bits < 2 ^ g → AgreeBelow g (gauge_set s) v → s ≡ set_of g v
set_unique g s v h e = ap numbered (sym (number_bits g s.bits ∙ mod-eq_of_lt h) ∙ number_same g (gauge_set s) v e)

-- Sets with the same gauges have the same histories.
pub agree_histories : (w v : history.FaultSet) → Agree w v → SameHistories w v
agree_histories w v e n start es x = (same_history n start w v e, same_history n start v w (λ a. sym (e a)))

-- ---- a list of the sets
pub represented :
    (f g : ℕ) (xs : List FaultSet) → Lists f g xs → (v : history.FaultSet) → AtMost f g v → Represented g xs v
represented f g xs h v m =
    let has : Has xs (set_of g v) = h.complete (set_of g v) (set_few f g v m) in
    let agrees : Agree (gauge_set (set_of g v)) v = set_agrees f g v m in
    let alike : SameHistories (gauge_set (set_of g v)) v = agree_histories (gauge_set (set_of g v)) v agrees in
    record {
      place = has.0;
      within = has.1;
      same = λ d. subst (λ s. Agree (gauge_set s) v) (sym (has.2 d)) agrees;
      histories = λ d. subst (λ s. SameHistories (gauge_set s) v) (sym (has.2 d)) alike;
      only = λ k l e.
          let d : FaultSet = set_of g v in
          let few : Few f g (get_or xs k d) = All-get_or (Few f g) xs k d l h.sound in
          one_place xs k has.0 d h.ordered l has.1
          (set_unique g (get_or xs k d) v few.0 (e d) ∙ sym (has.2 d));
    }

pub represents : (f g : ℕ) (xs : List FaultSet) → Lists f g xs → Represents f g xs
represents f g xs h = record {
  few = All-weaker (Few f g) (λ s. AtMost f g (gauge_set s)) (few_gauges f g) xs h.sound;
  all = represented f g xs h;
}

-- What holds of all listed sets, and of a set with every other that has the same gauges, holds of each set of at most f
-- gauges below g.
pub of_listed_sets :
    (P : history.FaultSet → Type 0) → ((w v : history.FaultSet) → Agree w v → P w → P v) →
    (f g : ℕ) (xs : List FaultSet) → Lists f g xs → AllByRecursion (λ s. P (gauge_set s)) xs →
    (v : history.FaultSet) → AtMost f g v → P v
of_listed_sets P same f g xs h all v m =
    same (gauge_set (set_of g v)) v (set_agrees f g v m)
    (all-has (λ s. P (gauge_set s)) xs (set_of g v) all (h.complete (set_of g v) (set_few f g v m)))
