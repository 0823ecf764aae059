-- One zone of the table is changed, and the others are as they were. Assumes nothing.
use Rattle.std.proofs.Common.{◌≡◌, ℕ, ◌+◌, ◌-◌, ◌*◌, ◌<◌, ◌≤◌, ◌≢◌, List, length, take, drop, ℤ, get_or, MutBor, Some, None, Option, Ok, Err, Result, MatchResult, sym, ap, ◌∙◌, subst, ⊎_elim, mul-le-mul_right, add-mul, arith}
use borrow.Rule.Slice.PartMut.{put_mid}
use Rattle.std.proofs.lemmas.List.{length-take, length-drop}
use Rattle.std.proofs.lemmas.Slice.{between_is, take-put_mid_below, drop-put_mid, between-put_mid}
use Rattle.std.proofs.lemmas.Bool.{cases_order, cases_eq}
use Rattle.std.proofs.lemmas.Bool.Decides.{nat_tests}
use Rattle.refusal.specs.declared.kinds.Refusal.{Refusal}
use Rattle.refusal.specs.Order.{or_else, Answers}
use Rattle.zones.specs.Checks.{size_refused, reading_refused, meet_refused}
use Rattle.zones.specs.declared.kinds.Reading.{Reading}
use Rattle.faults.specs.declared.set.FaultSet.{FaultSet}
use Rattle.table.specs.Parts.{size, part, table_refused, Heeds, Calls, AllChanged, AllRead, OneRefused}

-- no zone but the one at place k has changed
abbrev pub Only : (n k : ℕ) → List ℤ → List ℤ → Type 0
Only n k xs ys = (q : ℕ) → q ≢ k → part n q ys ≡ part n q xs

-- a zone's end is the next one's start
part_end : (n k : ℕ) → (k + 1) * size n ≡ k * size n + size n
part_end n k = omega (arith, add-mul k 1 (size n))

part_before : (n k q : ℕ) → k < q → (k + 1) * size n ≤ q * size n
part_before n k q l = let h : k + 1 ≤ q = omega arith in mul-le-mul_right (size n) h

-- the zone at k is within a table of m zones
pub part_within : (n k m len : ℕ) → k < m → len ≡ m * size n → (k + 1) * size n ≤ len
part_within n k m len l e = omega (arith, part_before n k m l)

module _ (n k : ℕ) (xs : List ℤ) (fits : (k + 1) * size n ≤ length xs) where
  pub part_length : length (part n k xs) ≡ size n
  unfolding part
  part_length = simp (length-take, length-drop) (omega (arith, part_end n k))

  module _ (ys : List ℤ) (long : length ys ≡ size n) where
    pub part_put : part n k (put_mid (k * size n) ((k + 1) * size n - k * size n) xs ys) ≡ ys
    unfolding part
    part_put = between-put_mid (k * size n) _ xs ys ((k + 1) * size n) (omega (arith, part_end n k)) (omega (arith, part_end n k))

    pub only_put : Only n k xs (put_mid (k * size n) ((k + 1) * size n - k * size n) xs ys)
    unfolding part
    only_put q ne =
        let s = part_end n k in
        let a = k * size n in
        let e = (k + 1) * size n in
        let al : a ≤ length xs = omega arith in
        let yl : length ys ≡ e - a = omega arith in
        ⊎_elim
        (λ f. absurd (ne f))
        (λ f. ⊎_elim
        (λ g. between_is (put_mid a (e - a) xs ys) (q * size n) ((q + 1) * size n)
        ∙ ap (drop (q * size n)) (take-put_mid_below a (e - a) xs ys ((q + 1) * size n) (part_before n q k g) al)
        ∙ sym (between_is xs (q * size n) ((q + 1) * size n)))
        (λ g. ap (take ((q + 1) * size n - q * size n))
        (drop-put_mid a (e - a) xs ys (q * size n) (omega (arith, part_before n k q g)) al yl))
        f)
        (cases_order q k)

-- ---- a loop over the zones: those below i are done, and the others are as they were
pub record Going (n : ℕ) (P : ℕ → List ℤ → List ℤ → Type 0) (i : ℕ) (xs ys : List ℤ) : Type 0 where
  pub before : (k : ℕ) → k < i → P k (part n k xs) (part n k ys)
  pub after : (k : ℕ) → i ≤ k → part n k ys ≡ part n k xs

-- the zone at i is done
pub going_more : (n : ℕ) (P : ℕ → List ℤ → List ℤ → Type 0) (i : ℕ) (xs ys zs : List ℤ) → Going n P i xs ys →
    P i (part n i ys) (part n i zs) → Only n i ys zs → Going n P (i + 1) xs zs
going_more n P i xs ys zs g p o = record {
  before = λ k l. ⊎_elim
      (λ e. subst (λ q. P q (part n q xs) (part n q zs)) (sym e)
      (subst (λ vs. P i vs (part n i zs)) (g.after i (omega arith)) p))
      (λ ne. subst (P k (part n k xs)) (sym (o k ne)) (g.before k (omega arith)))
      (cases_eq k i);
  after = λ k l. o k (λ e. omega arith) ∙ g.after k (omega arith);
}

-- the same of numbers that are lent on and written back, where m is known to be a zone's size
pub lent_length : (n m k : ℕ) (xs : List ℤ) → m ≡ size n → (k + 1) * size n ≤ length xs →
    length (take ((k + 1) * m - k * m) (drop (k * m) xs)) ≡ m
unfolding part
lent_length n m k xs e fits =
    subst (λ s. length (take ((k + 1) * s - k * s) (drop (k * s) xs)) ≡ s) (sym e) (part_length n k xs fits)

pub going_lent : (n m i : ℕ) (P : ℕ → List ℤ → List ℤ → Type 0) (xs ys zs : List ℤ) → m ≡ size n → (i + 1) * size n ≤ length ys →
    length zs ≡ m → Going n P i xs ys → P i (take ((i + 1) * m - i * m) (drop (i * m) ys)) zs →
    Going n P (i + 1) xs (put_mid (i * m) ((i + 1) * m - i * m) ys zs)
unfolding part
going_lent n m i P xs ys zs e fits long g p =
    subst (λ s. P i (take ((i + 1) * s - i * s) (drop (i * s) ys)) zs → Going n P (i + 1) xs (put_mid (i * s) ((i + 1) * s - i * s) ys zs))
    (sym e)
    (λ q. going_more n P i xs ys _ g (subst (P i (part n i ys)) (sym (part_put n i ys fits zs (long ∙ e))) q)
    (only_put n i ys fits zs (long ∙ e)))
    p

-- ---- nothing is refused in the table of a plant
pub size_taken : (n len : ℕ) → 1 ≤ n → n ≤ 8 → len ≡ size n → size_refused n len ≡ None
size_taken n len a b e = grind (arith, nat_tests)

pub fitting : (n m k len : ℕ) → k ≡ m → len ≡ m * size n → table_refused n k len ≡ None
fitting n m k len e f = grind (arith, nat_tests)

pub clash_some : {A : Type 0} {x : A} → Some x ≡ None → ⊥
clash_some e = grind arith

-- what answers by checks that find nothing says what holds
pub unrefused : {A : Type 0} (r : Result A Refusal) (checks others : Option Refusal) (holds gives : A → Type 0) (left rest : Type 0) →
    checks ≡ None → others ≡ None → ((a : A) → holds a → gives a) → Answers r checks holds left → Answers r others gives rest
unrefused (Ok a) checks others holds gives left rest e f to s = (f, to a s.1)
unrefused (Err x) checks others holds gives left rest e f to s = absurd (clash_some (sym s.0 ∙ e))

pub taken_both : {A : Type 0} (a b : Option A) (x : A) → a ≡ None → b ≡ None → or_else a b ≡ Some x → ⊥
taken_both a b x e f g = grind arith

-- ---- every zone heeds a reading, where each call does
module _ (n : ℕ) (r : Reading) (a : ℕ) (calls : Calls) (sets : List FaultSet) (xs ys : List ℤ)
    (each : (s : FaultSet) (v : MutBor (List ℤ)) (o : Result Unit Refusal) (w : MutBor (List ℤ)) → calls s v o w →
    MatchResult o (λ _. Heeds n r a s v.now w.now) (λ e. meet_refused n (length v.now) r ≡ Some e))
    (lo : 1 ≤ n) (hi : n ≤ 8) (taken : reading_refused n r ≡ None) where
  pub all_heed : (o : Result Unit Refusal) → MatchResult o (λ _. AllChanged n calls sets xs ys) (OneRefused n calls) →
      MatchResult o (λ _. AllRead n r a sets xs ys) (λ _. ⊥)
  all_heed (Ok tt) all = λ k h.
      let w = all k h in
      let s : FaultSet = get_or sets k (record { bits = 0 }) in
      subst (λ v. Heeds n r a s v (part n k ys)) w.found (subst (Heeds n r a s w.lent.now) w.left (each s w.lent (Ok tt) w.after w.called))
  all_heed (Err e) one =
      let w = one.refused in
      taken_both (size_refused n (length w.lent.now)) (reading_refused n r) e
      (size_taken n _ lo hi (ap length w.found ∙ one.long)) taken (each one.set w.lent (Err e) w.after w.called)
