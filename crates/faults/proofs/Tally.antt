-- How many fault sets there are. Assumes nothing.
use Rattle.std.proofs.Common.{◌≡◌, ℕ, zero, suc, ◌+◌, ◌^◌, Bool, false, cond, eqb, ltb, leb, List, [], ◌∷◌, map, length, filter, sym, refl, ap, ◌∙◌, arith}
use lib.Count.{ones}
use Rattle.std.specs.List.{range_with_len, count_by}
use Rattle.std.proofs.lemmas.List.{length-append}
use Rattle.std.proofs.lemmas.List.Sums.{length-filter, sum_by-cons}
use Rattle.std.proofs.lemmas.Bool.Decides.{nat_tests}
use Rattle.faults.specs.declared.set.FaultSet.{FaultSet}
use Rattle.faults.specs.Sets.{size, NumberOf}
use Rattle.faults.proofs.Order.{numbered, of_size, listing, lists, one_list}

-- What passes one of two tests that exclude each other.
count_either :
    (p q r : ℕ → Bool) → ((m : ℕ) → cond (r m) 1 0 ≡ cond (p m) 1 0 + cond (q m) 1 0) →
    (xs : List ℕ) → count_by r xs ≡ count_by p xs + count_by q xs
count_either p q r h [] = refl
count_either p q r h (x ∷ xs) = simp sum_by-cons (omega (arith, h x, count_either p q r h xs))

count_none : (p : ℕ → Bool) → ((m : ℕ) → p m ≡ false) → (xs : List ℕ) → count_by p xs ≡ 0
count_none p h [] = refl
count_none p h (x ∷ xs) = let here : p x ≡ false = h x in rw (sum_by-cons, here) (omega (arith, count_none p h xs))

count_numbered : (p : FaultSet → Bool) (xs : List ℕ) → count_by p (map numbered xs) ≡ count_by (λ m. p (numbered m)) xs
count_numbered p [] = refl
count_numbered p (x ∷ xs) = simp sum_by-cons (ap (λ n. cond (p (numbered x)) 1 0 + n) (count_numbered p xs))

length_listing : (k g : ℕ) → length (listing k g) ≡ count_by (λ m. ltb (ones m) k) (range_with_len 0 (2 ^ g))
unfolding listing
length_listing zero g = sym (count_none (λ m. ltb (ones m) 0) (λ m. grind (arith, nat_tests)) (range_with_len 0 (2 ^ g)))
length_listing (suc k) g =
    let numbers : List ℕ = range_with_len 0 (2 ^ g) in
    let same : ℕ → Bool = λ m. eqb (ones m) k in
    let of_k : length (of_size k (2 ^ g)) ≡ count_by same numbers =
    length-filter (λ s. eqb (size s) k) (map numbered numbers) ∙ count_numbered (λ s. eqb (size s) k) numbers in
    let sum = count_either (λ m. ltb (ones m) k) same (λ m. ltb (ones m) (suc k)) (λ m. grind (arith, nat_tests)) numbers in
    omega (arith, length-append (listing k g) (of_size k (2 ^ g)), of_k, length_listing k g, sum)

-- There are as many sets of at most f gauges below g as numbers below 2 to the g with at most f ones.
pub number_counted : (f g n : ℕ) → n ≡ length (filter (λ m. leb (ones m) f) (range_with_len 0 (2 ^ g))) → NumberOf f g n
number_counted f g n e =
    let numbers : List ℕ = range_with_len 0 (2 ^ g) in
    let counted : n ≡ count_by (λ m. leb (ones m) f) numbers = e ∙ length-filter (λ m. leb (ones m) f) numbers in
    let same = count_either (λ m. ltb (ones m) (f + 1)) (λ _. false) (λ m. leb (ones m) f) (λ m. grind (arith, nat_tests)) numbers in
    let none = count_none (λ _. false) (λ _. refl) numbers in
    let long : length (listing (f + 1) g) ≡ n = omega (arith, length_listing (f + 1) g) in
    record {
      sets = listing (f + 1) g;
      lists = lists f g;
      long = long;
      every = λ xs h. ap length (one_list f g xs (listing (f + 1) g) h (lists f g)) ∙ long;
    }
