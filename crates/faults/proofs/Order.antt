-- Lists of fault sets in order: what the listing by size has in it, and that there is no other such list.
-- Assumes nothing.
use Rattle.std.proofs.Common.{◌≡◌, ℕ, zero, suc, ◌+◌, ◌^◌, ◌<◌, ◌≤◌, Bool, true, false, cond, eqb, ◌⊎◌, List, [], ◌∷◌, ◌++◌, map, length, get_or, filter, sym, refl, ap, ◌∙◌, subst, inl, inr, add-one, arith}
use lib.Count.{ones}
use Rattle.std.specs.List.{range_with_len, HoldsAt, ContainsAt as Has, AllByRecursion}
use Rattle.std.proofs.ByRecursion.{All-append, All-get_or, all-has, All-from_get_or, All-weaker, has_append_left, has_append_right}
use Rattle.std.proofs.lemmas.Bool.{cases_eq, cases_order, eq-eqb, eqb-true, true≢false}
use Rattle.faults.specs.declared.set.FaultSet.{FaultSet}
use Rattle.faults.specs.Sets.{size, Before, Ascending, Few, Lists}

-- ---- sets by their numbers
-- The set with a number.
abbrev pub numbered : ℕ → FaultSet
numbered m = record { bits = m }

-- The sets of k gauges among those with a number below n, by number.
abbrev pub of_size : (k n : ℕ) → List FaultSet
of_size k n = filter (λ s. eqb (size s) k) (map numbered (range_with_len 0 n))

-- ---- the order
not_itself : (s : FaultSet) → Before s s → ⊥
not_itself s (inl l) = omega arith
not_itself s (inr l) = omega (arith, l.1)

not_both : (s t : FaultSet) → Before s t → Before t s → ⊥
not_both s t h k = grind arith

-- A list with a set before all others; its parts.
asc_cons : (x : FaultSet) (xs : List FaultSet) → AllByRecursion (Before x) xs → Ascending xs → Ascending (x ∷ xs)
asc_cons x xs h a i zero d l m = absurd (omega arith)
asc_cons x xs h a zero (suc j) d l m = All-get_or (Before x) xs j d (omega arith) h
asc_cons x xs h a (suc i) (suc j) d l m = a i j d (omega arith) (omega arith)

asc_first : (x : FaultSet) (xs : List FaultSet) → Ascending (x ∷ xs) → AllByRecursion (Before x) xs
asc_first x xs a = All-from_get_or (Before x) xs x (λ j l. a 0 (suc j) x (omega arith) (omega arith))

asc_rest : (x : FaultSet) (xs : List FaultSet) → Ascending (x ∷ xs) → Ascending xs
asc_rest x xs a i j d l m = a (suc i) (suc j) d (omega arith) (omega arith)

asc_append :
    (xs ys : List FaultSet) → Ascending xs → Ascending ys → AllByRecursion (λ x. AllByRecursion (Before x) ys) xs → Ascending (xs ++ ys)
asc_append [] ys a b h = b
asc_append (x ∷ xs) ys a b h =
    asc_cons x (xs ++ ys) (All-append (Before x) xs ys (asc_first x xs a) h.0)
    (asc_append xs ys (asc_rest x xs a) b h.1)

-- A set stands at one place only.
pub one_place :
    (xs : List FaultSet) (i j : ℕ) (d : FaultSet) → Ascending xs →
    i < length xs → j < length xs → get_or xs i d ≡ get_or xs j d → i ≡ j
one_place xs i j d a l m e =
    elim (cases_order i j) [
      | inl same ↦ same
      | inr (inl b) ↦ absurd (not_itself (get_or xs j d) (subst (λ t. Before t (get_or xs j d)) e (a i j d b m)))
      | inr (inr b) ↦ absurd (not_itself (get_or xs j d) (subst (Before (get_or xs j d)) e (a j i d b l)))
    ]

-- ---- the sets of one size
-- Those whose numbers are the n from a on.
abbrev from : (k a n : ℕ) → List FaultSet
from k a n = filter (λ s. eqb (size s) k) (map numbered (range_with_len a n))

abbrev Between : (k a n : ℕ) → FaultSet → Type 0
Between k a n s = (a ≤ s.bits) × (s.bits < a + n) × (size s ≡ k)

all_one :
    (P : FaultSet → Type 0) (x : FaultSet) (xs : List FaultSet) (b : Bool) →
    (b ≡ true → P x) → AllByRecursion P xs → AllByRecursion P (cond b (x ∷ xs) xs)
all_one P x xs true h r = (h refl, r)
all_one P x xs false h r = r

asc_one :
    (x : FaultSet) (xs : List FaultSet) (b : Bool) →
    (b ≡ true → AllByRecursion (Before x) xs) → Ascending xs → Ascending (cond b (x ∷ xs) xs)
asc_one x xs true h r = asc_cons x xs (h refl) r
asc_one x xs false h r = r

has_later : (b : Bool) (x : FaultSet) (xs : List FaultSet) (s : FaultSet) → Has xs s → Has (cond b (x ∷ xs) xs) s
has_later true x xs s h = has_append_right (x ∷ []) xs s h
has_later false x xs s h = h

has_first : (b : Bool) (x : FaultSet) (xs : List FaultSet) → b ≡ true → Has (cond b (x ∷ xs) xs) x
has_first true x xs e = (0, omega arith, λ d. refl)
has_first false x xs e = absurd (true≢false (sym e))

from_sound : (k a n : ℕ) → AllByRecursion (Between k a n) (from k a n)
from_sound k a zero = tt
from_sound k a (suc n) =
    let rest : List FaultSet = from k (a + 1) n in
    all_one (Between k a (suc n)) (numbered a) rest (eqb (ones a) k) (λ e. (omega arith, omega arith, eqb-true (ones a) k e))
    (All-weaker (Between k (a + 1) n) (Between k a (suc n)) (λ s h. (omega arith, omega arith, h.2)) rest
    (from_sound k (a + 1) n))

from_complete : (k a n : ℕ) (s : FaultSet) → Between k a n s → Has (from k a n) s
from_complete k a zero s h = absurd (omega arith)
from_complete k a (suc n) s h =
    elim (cases_eq a s.bits) [
      | inl e ↦ subst (Has (from k a (suc n))) (ap numbered e)
          (has_first (eqb (ones a) k) (numbered a) (from k (a + 1) n) (eq-eqb (ones a) k (ap ones e ∙ h.2)))
      | inr e ↦ has_later (eqb (ones a) k) (numbered a) (from k (a + 1) n) s
          (from_complete k (a + 1) n s (omega arith, omega arith, h.2))
    ]

from_ordered : (k a n : ℕ) → Ascending (from k a n)
from_ordered k a zero = λ i j d l m. absurd (omega arith)
from_ordered k a (suc n) =
    let rest : List FaultSet = from k (a + 1) n in
    let later : AllByRecursion (Between k (a + 1) n) rest = from_sound k (a + 1) n in
    asc_one (numbered a) rest (eqb (ones a) k)
    (λ e.
    All-weaker (Between k (a + 1) n) (Before (numbered a)) (λ s h. inr (eqb-true (ones a) k e ∙ sym h.2, omega arith)) rest
    later)
    (from_ordered k (a + 1) n)

-- ---- all sizes
-- The sets of fewer than k of the gauges below g, by size.
unfoldable pub listing : (k g : ℕ) → List FaultSet
listing zero g = []
listing (suc k) g = listing k g ++ of_size k (2 ^ g)

pub listing_more : (k g : ℕ) → listing (k + 1) g ≡ listing k g ++ of_size k (2 ^ g)
unfolding listing
listing_more k g = ap (λ j. listing j g) (add-one k)

abbrev Fewer : (k g : ℕ) → FaultSet → Type 0
Fewer k g s = (s.bits < 2 ^ g) × (size s < k)

sound : (k g : ℕ) → AllByRecursion (Fewer k g) (listing k g)
unfolding listing
sound zero g = tt
sound (suc k) g =
    All-append (Fewer (suc k) g) (listing k g) (of_size k (2 ^ g))
    (All-weaker (Fewer k g) (Fewer (suc k) g) (λ s h. (h.0, omega arith)) (listing k g) (sound k g))
    (All-weaker (Between k 0 (2 ^ g)) (Fewer (suc k) g) (λ s h. (omega arith, omega arith)) (of_size k (2 ^ g))
    (from_sound k 0 (2 ^ g)))

complete : (k g : ℕ) (s : FaultSet) → Fewer k g s → Has (listing k g) s
unfolding listing
complete zero g s h = absurd (omega arith)
complete (suc k) g s h =
    elim (cases_eq (size s) k) [
      | inl e ↦ has_append_right (listing k g) (of_size k (2 ^ g)) s
          (from_complete k 0 (2 ^ g) s (omega arith, omega arith, e))
      | inr e ↦ has_append_left (listing k g) (of_size k (2 ^ g)) s (complete k g s (h.0, omega arith))
    ]

ordered : (k g : ℕ) → Ascending (listing k g)
unfolding listing
ordered zero g = λ i j d l m. absurd (omega arith)
ordered (suc k) g =
    let all_of_size : AllByRecursion (Between k 0 (2 ^ g)) (of_size k (2 ^ g)) = from_sound k 0 (2 ^ g) in
    asc_append (listing k g) (of_size k (2 ^ g)) (ordered k g) (from_ordered k 0 (2 ^ g))
    (All-weaker (Fewer k g) (λ x. AllByRecursion (Before x) (of_size k (2 ^ g)))
    (λ x h. All-weaker (Between k 0 (2 ^ g)) (Before x) (λ y l. inl (omega arith)) (of_size k (2 ^ g)) all_of_size)
    (listing k g) (sound k g))

-- By size, up to f gauges, they are listed.
pub lists : (f g : ℕ) → Lists f g (listing (f + 1) g)
lists f g = record {
  sound = All-weaker (Fewer (f + 1) g) (Few f g) (λ s h. (h.0, omega arith)) (listing (f + 1) g) (sound (f + 1) g);
  complete = λ s h. complete (f + 1) g s (h.0, omega arith);
  ordered = ordered (f + 1) g;
}

-- ---- there is no other list
has_cases : (x : FaultSet) (xs : List FaultSet) (s : FaultSet) → Has (x ∷ xs) s → (x ≡ s) ⊎ Has xs s
has_cases x xs s h = at_place h.0 h.1 h.2
  where
    at_place : (k : ℕ) → k < length (x ∷ xs) → HoldsAt (λ y. y ≡ s) (x ∷ xs) k → (x ≡ s) ⊎ Has xs s
    at_place zero l e = inl (e x)
    at_place (suc k) l e = inr (k, omega arith, e)

has_head : (x : FaultSet) (xs : List FaultSet) → Has (x ∷ xs) x
has_head x xs = (0, omega arith, λ d. refl)

has_nothing : (s : FaultSet) → Has [] s → ⊥
has_nothing s h = omega (arith, h.1)

-- The first sets of two ascending lists with the same sets are the same.
same_first :
    (x y : FaultSet) (xs ys : List FaultSet) → Ascending (x ∷ xs) → Ascending (y ∷ ys) →
    Has (y ∷ ys) x → Has (x ∷ xs) y → x ≡ y
same_first x y xs ys a b h k =
    elim (has_cases y ys x h) [
      | inl e ↦ sym e
      | inr l ↦ elim (has_cases x xs y k) [
        | inl e ↦ e
        | inr m ↦ absurd (not_both x y (all-has (Before x) xs y (asc_first x xs a) m)
            (all-has (Before y) ys x (asc_first y ys b) l))
      ]
    ]

-- What is behind the first set of one is behind that of the other.
behind : (x : FaultSet) (xs ys : List FaultSet) (s : FaultSet) → Ascending (x ∷ xs) → Has xs s → Has (x ∷ ys) s → Has ys s
behind x xs ys s a h k =
    elim (has_cases x ys s k) [
      | inl e ↦ absurd (not_itself s (subst (λ t. Before t s) e (all-has (Before x) xs s (asc_first x xs a) h)))
      | inr m ↦ m
    ]

same_list :
    (xs ys : List FaultSet) → Ascending xs → Ascending ys →
    ((s : FaultSet) → Has xs s → Has ys s) → ((s : FaultSet) → Has ys s → Has xs s) → xs ≡ ys
same_list [] [] a b to back = refl
same_list [] (y ∷ ys) a b to back = absurd (has_nothing y (back y (has_head y ys)))
same_list (x ∷ xs) [] a b to back = absurd (has_nothing x (to x (has_head x xs)))
same_list (x ∷ xs) (y ∷ ys) a b to back =
    let e : x ≡ y = same_first x y xs ys a b (to x (has_head x xs)) (back y (has_head y ys)) in
    let rest : xs ≡ ys = same_list xs ys (asc_rest x xs a) (asc_rest y ys b)
    (λ s h. behind x xs ys s a h (subst (λ t. Has (t ∷ ys) s) (sym e) (to s (has_append_right (x ∷ []) xs s h))))
    (λ s h. behind y ys xs s b h (subst (λ t. Has (t ∷ xs) s) e (back s (has_append_right (y ∷ []) ys s h)))) in
    cc

-- There is one list of the sets of at most f gauges below g.
pub one_list : (f g : ℕ) (xs ys : List FaultSet) → Lists f g xs → Lists f g ys → xs ≡ ys
one_list f g xs ys p q =
    same_list xs ys p.ordered q.ordered (λ s h. q.complete s (all-has (Few f g) xs s p.sound h))
    (λ s h. p.complete s (all-has (Few f g) ys s q.sound h))
