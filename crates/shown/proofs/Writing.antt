-- The words for the numbers that pass a test. Assumes nothing.
use Rattle.std.proofs.Common.{◌≡◌, ℕ, zero, suc, ◌+◌, ◌<◌, ◌≤◌, Bool, true, false, cond, List, [], ◌∷◌, ◌++◌, Some, None, Option, sym, refl, ap, ◌∙◌, subst, add-one, arith, append-nil, append_assoc}
use Rattle.std.specs.List.{filter, flat_map, range_with_len}
use Rattle.std.specs.Option.{MatchOption}
use Rattle.std.proofs.lemmas.List.{map-id}
use Rattle.std.proofs.lemmas.List.Concat.{flat_map-append}
use Rattle.std.proofs.lemmas.List.FromFn.{filter_of_map_range_with_len_more}
use Rattle.shown.specs.Written.{blank_number}

module _ (test : ℕ → Bool) where
  -- the numbers below n that pass
  abbrev pub below : ℕ → List ℕ
  below n = filter test (range_with_len 0 n)

  pub below_more : (n : ℕ) → below (n + 1) ≡ below n ++ cond (test n) (n ∷ []) []
  below_more n =
      sym (ap (filter test) (map-id (range_with_len 0 (n + 1))))
      ∙ filter_of_map_range_with_len_more test (λ x. x) 0 n n (omega arith)
      ∙ ap (λ ks. filter test ks ++ cond (test n) (n ∷ []) []) (map-id (range_with_len 0 n))

  pub below_none : (n : ℕ) → ((k : ℕ) → 0 ≤ k → k < n → test k ≡ false) → below n ≡ []
  below_none zero out = refl
  below_none (suc n) out =
      ap below (sym (add-one n)) ∙ below_more n ∙ ap (λ b. below n ++ cond b (n ∷ []) []) (out n (omega arith) (omega arith))
      ∙ append-nil (below n) ∙ below_none n (λ k l h. out k l (omega arith))

  -- the first that passes of sixteen, if any does
  abbrev pub First : Option ℕ → Type 0
  First r = MatchOption r ((k : ℕ) → 0 ≤ k → k < 16 → test k ≡ false)
      (λ n. (0 ≤ n) × (n < 16) × (test n ≡ true) × ((k : ℕ) → 0 ≤ k → k < n → test k ≡ false))

  pub first_none : (r : Option ℕ) → First r → r ≡ None → below 16 ≡ []
  first_none r h e = below_none 16 (subst First e h)

  pub first_below : (r : Option ℕ) (n : ℕ) → First r → r ≡ Some n → n < 16
  first_below r n h e = (subst First e h).1

  pub first_alone : (r : Option ℕ) (n : ℕ) → First r → r ≡ Some n → below (n + 1) ≡ n ∷ []
  first_alone r n h e =
      let is = subst First e h in
      below_more n ∙ ap (λ ks. ks ++ cond (test n) (n ∷ []) []) (below_none n is.3) ∙ ap (λ b. cond b (n ∷ []) []) is.2

  -- one number more, after the first
  pub more_passes : (first n : ℕ) (rest : List ℕ) → test n ≡ true → below n ≡ first ∷ rest → below (n + 1) ≡ first ∷ (rest ++ (n ∷ []))
  more_passes first n rest e is =
      below_more n ∙ ap (λ b. below n ++ cond b (n ∷ []) []) e ∙ ap (λ ks. ks ++ (n ∷ [])) is

  pub more_passed_over : (first n : ℕ) (rest : List ℕ) → test n ≡ false → below n ≡ first ∷ rest → below (n + 1) ≡ first ∷ rest
  more_passed_over first n rest e is =
      below_more n ∙ ap (λ b. below n ++ cond b (n ∷ []) []) e ∙ append-nil (below n) ∙ is

pub words_more : (words : List ℕ) (rest : List ℕ) (n : ℕ) →
    (words ++ flat_map blank_number rest) ++ blank_number n ≡ words ++ flat_map blank_number (rest ++ (n ∷ []))
words_more words rest n =
    append_assoc words (flat_map blank_number rest) (blank_number n)
    ∙ ap (λ ws. words ++ ws) (sym (flat_map-append blank_number rest (n ∷ []) ∙ ap (λ ws. flat_map blank_number rest ++ ws) (append-nil (blank_number n))))
