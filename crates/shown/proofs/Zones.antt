-- The zones of a table as a list, and what is counted over it. Assumes nothing.
use Rattle.std.proofs.Common.{◌≡◌, ℕ, zero, suc, ◌+◌, ◌*◌, ◌<◌, ◌≤◌, Bool, true, false, cond, not, ◌&&◌, ◌||◌, ltb, List, [], ◌∷◌, ◌++◌, map, length, take, drop, get_or, ℤ, pos, Some, None, vec_items, Option, MatchOption, subst, sym, refl, ap, ◌∙◌, arith, rules}
use Rattle.std.proofs.lemmas.List.{append-nil, map-append, take_at, drop_at, drop-drop, length-drop, length-append}
use Rattle.std.proofs.lemmas.List.Elements.{filter-append}
use Rattle.std.proofs.lemmas.List.Folds.{list_all-append}
use Rattle.std.proofs.lemmas.List.Sums.{fold-append}
use Rattle.std.proofs.lemmas.Fn.{fold_over}
use Rattle.std.proofs.lemmas.Iterator.{YieldsList}
use Rattle.std.proofs.lemmas.Iterator.Consumers.{reduce_from_yields_List}
use denote.Param.Members.{Mut}
use Rattle.std.specs.Int.{int_max}
use Rattle.std.specs.Fn.{Called}
use Rattle.std.specs.Iterator.{AlwaysYields, Drains}
use Rattle.std.specs.List.{FoldsTo, filter, reduce, list_all, zip}
use Rattle.std.specs.Slice.Iter.{chunks_exact_rest, chunks_exact_size, chunks_exact_steps}
use Rattle.std.specs.declared.slice.ChunksExact.{ChunksExact}
use Rattle.zones.specs.Numbers.{cell}
use Rattle.faults.specs.declared.set.FaultSet.{FaultSet}
use Rattle.faults.specs.Sets.{gauge_set}
use Rattle.table.specs.declared.state.Observer.{Observer}
use Rattle.table.specs.Parts.{part, size}
use Rattle.shown.specs.Computed.{lacks_levels, larger, largest, all_without, in_each, in_each_of}

pub larger_none : (o : Option ℤ) → larger o None ≡ o
larger_none None = refl
larger_none (Some v) = refl

-- the first m parts, of s numbers each
abbrev pub cut : (s m : ℕ) → List ℤ → List (List ℤ)
cut s zero xs = []
cut s (suc m) xs = take s xs ∷ cut s m (drop s xs)

cut_more : (s m : ℕ) (xs : List ℤ) → cut s (suc m) xs ≡ cut s m xs ++ (take s (drop (m * s) xs) ∷ [])
cut_more s zero xs = let none : 0 ≡ 0 * s = omega arith in ap (λ k. take s (drop k xs) ∷ []) none
cut_more s (suc m) xs =
    ap (λ ys. take s xs ∷ ys) (cut_more s m (drop s xs)
    ∙ ap (λ ys. cut s m (drop s xs) ++ (take s ys ∷ [])) (drop-drop (m * s) s xs ∙ ap (λ k. drop k xs) (omega arith)))

length-cut : (s m : ℕ) (xs : List ℤ) → length (cut s m xs) ≡ m
length-cut s zero xs = refl
length-cut s (suc m) xs = ap suc (length-cut s m (drop s xs))

-- the whole parts of a list come one by one
always_cut : (s m : ℕ) → 0 < s → (it : ChunksExact ℤ) (xs : List ℤ) → chunks_exact_rest it ≡ xs → chunks_exact_size it ≡ s →
    length xs ≡ m * s → AlwaysYields chunks_exact_steps (λ x. x.now) it (cut s m xs)
always_cut s zero some it xs is of long = λ x t step.
    omega (arith, ap length is, ap length step.1.0, length-append x.now (chunks_exact_rest t), step.1.1)
always_cut s (suc m) some it xs is of long = (
  λ t step. omega (arith, step.1.0, ap length is),
  λ x t step.
      let split : xs ≡ x.now ++ chunks_exact_rest t = sym is ∙ step.1.0 in
      let n : length x.now ≡ s = step.1.1 ∙ of in
      let after : chunks_exact_rest t ≡ drop s xs = sym (ap (drop s) split ∙ drop_at x.now (chunks_exact_rest t) s n) in (
        sym (ap (take s) split ∙ take_at x.now (chunks_exact_rest t) s n),
        always_cut s m some t (drop s xs) after (step.0 ∙ of) (length-drop s xs ∙ omega (arith, long)),
      ),
)

-- the zones of an observer
abbrev pub zones_of : Observer → List (List ℤ)
zones_of o = cut (size o.plant.basins) (length (vec_items o.sets)) (vec_items o.table)

pub YieldsList-from_zones : (o : Observer) {it : ChunksExact ℤ} → chunks_exact_rest it ≡ vec_items o.table →
    chunks_exact_size it ≡ size o.plant.basins → YieldsList chunks_exact_steps (λ x. x.now) it (zones_of o)
YieldsList-from_zones o {it} is of = record {
  runs = always_cut (size o.plant.basins) (length (vec_items o.sets)) (omega arith) it (vec_items o.table) is of (search rules);
}

and_true : (b : Bool) → (b && true) ≡ b
and_true true = refl
and_true false = refl

list_all-push : {A : Type 0} (test : A → Bool) (xs : List A) (x : A) → list_all test (xs ++ (x ∷ [])) ≡ (list_all test xs && test x)
list_all-push test xs x = list_all-append test xs (x ∷ []) ∙ ap (λ b. list_all test xs && b) (and_true (test x))

-- ---- what is counted zone by zone, over the list of zones
module _ (n : ℕ) where
  zones_more : (m : ℕ) (xs : List ℤ) → cut (size n) (suc m) xs ≡ cut (size n) m xs ++ (part n m xs ∷ [])
  unfolding part
  zones_more m xs =
      cut_more (size n) m xs ∙ ap (λ k. cut (size n) m xs ++ (take k (drop (m * size n) xs) ∷ [])) (omega arith)

  -- ---- the largest number
  module _ (i j : ℕ) where
    abbrev pub number : List ℤ → ℤ
    number zone = get_or zone (i * (n + 1) + j) (pos 0)

    abbrev pub numbers : List (List ℤ) → List ℤ
    numbers zones = map number (filter (λ zone. not (lacks_levels zone)) zones)

    reduce_push : (vs : List ℤ) (v : ℤ) → reduce int_max (vs ++ (v ∷ [])) ≡ larger (reduce int_max vs) (Some v)
    reduce_push [] v = refl
    reduce_push (w ∷ vs) v = ap Some (fold-append int_max w vs (v ∷ []))

    numbers_push : (zs : List (List ℤ)) (z : List ℤ) → numbers (zs ++ (z ∷ [])) ≡ numbers zs ++ numbers (z ∷ [])
    numbers_push zs z =
        ap (map number) (filter-append (λ zone. not (lacks_levels zone)) zs (z ∷ []))
        ∙ map-append number (filter (λ zone. not (lacks_levels zone)) zs) (filter (λ zone. not (lacks_levels zone)) (z ∷ []))

    pub largest_listed : (m : ℕ) (xs : List ℤ) → largest n xs i j m ≡ reduce int_max (numbers (cut (size n) m xs))
    unfolding cell
    largest_listed zero xs = refl
    largest_listed (suc m) xs =
        go (lacks_levels (part n m xs)) refl (largest_listed m xs)
        ∙ sym (ap (λ zs. reduce int_max (numbers zs)) (zones_more m xs)
        ∙ ap (reduce int_max) (numbers_push (cut (size n) m xs) (part n m xs)))
      where
        so_far : List ℤ
        so_far = numbers (cut (size n) m xs)

        here : Bool → List ℤ
        here b = map number (cond (not b) (part n m xs ∷ []) [])

        go : (b : Bool) → lacks_levels (part n m xs) ≡ b → largest n xs i j m ≡ reduce int_max so_far →
            larger (largest n xs i j m) (cond b None (Some (number (part n m xs))))
            ≡ reduce int_max (so_far ++ numbers (part n m xs ∷ []))
        go true e before =
            larger_none (largest n xs i j m) ∙ before
            ∙ sym (ap (λ b. reduce int_max (so_far ++ here b)) e ∙ ap (reduce int_max) (append-nil so_far))
        go false e before =
            ap (λ o. larger o (Some (number (part n m xs)))) before
            ∙ sym (ap (λ b. reduce int_max (so_far ++ here b)) e ∙ reduce_push so_far (number (part n m xs)))

  -- ---- no levels anywhere
  pub all_without_listed : (m : ℕ) (xs : List ℤ) → all_without n xs m ≡ list_all lacks_levels (cut (size n) m xs)
  all_without_listed zero xs = refl
  all_without_listed (suc m) xs =
      let zones = cut (size n) m xs in
      let zone = part n m xs in
      ap (λ b. b && lacks_levels zone) (all_without_listed m xs)
      ∙ sym (ap (list_all lacks_levels) (zones_more m xs) ∙ list_all-push lacks_levels zones zone)

-- ---- the gauges in each set
abbrev pub Pair : Type 0
Pair = FaultSet × List ℤ

zip_nil : (ks : List FaultSet) → zip {X = List ℤ} ks [] ≡ []
zip_nil [] = refl
zip_nil (k ∷ ks) = refl

zip_push : (ks : List FaultSet) (vs : List (List ℤ)) (v : List ℤ) (m : ℕ) (d : FaultSet) → length vs ≡ m → m < length ks →
    zip ks (vs ++ (v ∷ [])) ≡ zip ks vs ++ ((get_or ks m d, v) ∷ [])
zip_push [] vs v m d long h = absurd (omega arith)
zip_push (k ∷ ks) [] v zero d long h = ap (λ ps. (k, v) ∷ ps) (zip_nil ks)
zip_push (k ∷ ks) [] v (suc m) d long h = absurd (omega (arith, long))
zip_push (k ∷ ks) (w ∷ vs) v zero d long h = absurd (omega (arith, long))
zip_push (k ∷ ks) (w ∷ vs) v (suc m) d long h = ap (λ ps. (k, w) ∷ ps) (zip_push ks vs v m d (omega (arith, long)) (omega arith))

module _ (a : ℕ) where
  -- a set whose zone has no levels counts for nothing
  abbrev counts : Pair → Bool
  counts p = lacks_levels p.1 || gauge_set p.0 a

  pub in_each_listed : (n : ℕ) (sets : List FaultSet) (xs : List ℤ) (m : ℕ) → m ≤ length sets →
      in_each n sets xs a m ≡ list_all counts (zip sets (cut (size n) m xs))
  in_each_listed n sets xs zero h = sym (ap (list_all counts) (zip_nil sets))
  in_each_listed n sets xs (suc m) h =
      let d : FaultSet = record { bits = 0 } in
      let zones = cut (size n) m xs in
      let zone = part n m xs in
      let pushed = zip_push sets zones zone m d (length-cut (size n) m xs) (omega arith) in
      ap (λ b. b && counts (get_or sets m d, zone)) (in_each_listed n sets xs m (omega arith))
      ∙ sym (ap (λ zs. list_all counts (zip sets zs)) (zones_more n m xs) ∙ ap (list_all counts) pushed
      ∙ list_all-push counts (zip sets zones) (get_or sets m d, zone))

  pub filtered : (ps : List Pair) →
      list_all (λ p. gauge_set p.0 a) (filter (λ p. not (lacks_levels p.1)) ps) ≡ list_all counts ps
  filtered [] = refl
  filtered (p ∷ ps) = go (lacks_levels p.1) refl (filtered ps)
    where
      go : (b : Bool) → lacks_levels p.1 ≡ b →
          list_all (λ q. gauge_set q.0 a) (filter (λ q. not (lacks_levels q.1)) ps) ≡ list_all counts ps →
          list_all (λ q. gauge_set q.0 a) (filter (λ q. not (lacks_levels q.1)) (p ∷ ps)) ≡ list_all counts (p ∷ ps)
      go true e rest = rw e rest
      go false e rest = rw e (ap (λ b. gauge_set p.0 a && b) rest)

-- the sets of some pairs met with all of g gauges, as a fold over an iterator that gives the pairs
abbrev pub Met : ℕ → List Pair → FaultSet → Type 0
Met g ps r = (a : ℕ) → gauge_set r a ≡ (ltb a g && ltb a 16) && list_all (λ p. gauge_set p.0 a) ps

met_more : (g : ℕ) (ps : List Pair) (p : Pair) (r s : FaultSet) → Met g ps r →
    ((a : ℕ) → gauge_set s a ≡ (gauge_set r a && gauge_set p.0 a)) → Met g (ps ++ (p ∷ [])) s
met_more g ps p r s met both a =
    both a ∙ ap (λ b. b && gauge_set p.0 a) (met a) ∙ and_assoc (ltb a g && ltb a 16) (list_all (λ q. gauge_set q.0 a) ps) (gauge_set p.0 a)
    ∙ sym (ap (λ b. (ltb a g && ltb a 16) && b) (list_all-push (λ q. gauge_set q.0 a) ps p))
  where
    and_assoc : (x y z : Bool) → ((x && y) && z) ≡ (x && (y && z))
    and_assoc true y z = refl
    and_assoc false y z = refl

pub met_from_yields_List : {S A F : Type 0} {steps : S → Option A → S → Type 0} {v : A → Pair} {s : S} {all : List Pair}
    (f : Mut F (FaultSet × (A × Unit {0})) FaultSet) {state : F} (g : ℕ) (first r : FaultSet) →
    ((xs : List A) × (q : F) × Drains steps s xs
    × FoldsTo {P = F × FaultSet} (λ a x b. Called f a.0 (a.1, (x, tt)) b.1 b.0) (state, first) xs (q, r)) →
    YieldsList steps v s all →
    ((a : FaultSet) (x : A) (b : FaultSet) (q : F) → Called f state (a, (x, tt)) b q →
    (q ≡ state) × ((k : ℕ) → gauge_set b k ≡ (gauge_set a k && gauge_set (v x).0 k))) →
    ((a : ℕ) → gauge_set first a ≡ (ltb a g && ltb a 16)) → Met g all r
met_from_yields_List {steps = steps} {v = v} {s = s} {all = all} f {state} g first r ran road step start =
    fold_over steps v f (Met g) state
    (λ ps a x b q met k. let t = step a x b q k in (met_more g ps (v x) a b met t.1, t.0)) s all first r road.runs
    (λ a. start a ∙ sym (and_true (ltb a g && ltb a 16))) ran

-- what a closure makes of the items two by two is h of them
pub reduce_by_calls : {S A F : Type 0} {steps : S → Option A → S → Type 0} {s : S} {all : List A}
    (f : Mut F (A × (A × Unit {0})) A) (h : A → A → A) {state : F} (r : Option A) →
    MatchOption r (Drains steps s []) (λ y. (x : A) × (xs : List A) × (q : F) × Drains steps s (x ∷ xs)
    × FoldsTo {P = F × A} (λ a z b. Called f a.0 (a.1, (z, tt)) b.1 b.0) (state, x) xs (q, y)) →
    YieldsList steps (λ x. x) s all →
    ((a x b : A) (q : F) → Called f state (a, (x, tt)) b q → (q ≡ state) × (b ≡ h a x)) → r ≡ reduce h all
reduce_by_calls f h None ran road step = reduce_from_yields_List h _ None ran road
reduce_by_calls {A = A} {F = F} f h {state} (Some y) ran road step =
    reduce_from_yields_List h _ (Some y) (ran.0, ran.1, ran.3, plain ran.1 _ _ refl ran.4) road
  where
    plain : (xs : List A) (p q : F × A) → p.0 ≡ state → FoldsTo {P = F × A} (λ a z b. Called f a.0 (a.1, (z, tt)) b.1 b.0) p xs q →
        FoldsTo (λ a z b. b ≡ h a z) p.1 xs q.1
    plain [] p q same c = ap (λ w. w.1) c
    plain (x ∷ xs) p q same c =
        let made = step p.1 x c.0.1 c.0.0 (subst (λ w. Called f w (p.1, (x, tt)) c.0.1 c.0.0) same c.1) in
        (c.0.1, made.1, plain xs c.0 q made.0 c.2)

-- met over the zones that have levels
pub met_all : (o : Observer) (r : FaultSet) →
    Met o.in_play (filter (λ p. not (lacks_levels p.1)) (zip (vec_items o.sets) (zones_of o))) r →
    (a : ℕ) → gauge_set r a ≡ in_each_of o a
met_all o r met a =
    met a ∙ ap (λ b. (ltb a o.in_play && ltb a 16) && b)
    (filtered a (zip (vec_items o.sets) (zones_of o))
    ∙ sym (in_each_listed a o.plant.basins (vec_items o.sets) (vec_items o.table) (length (vec_items o.sets)) (omega arith)))
