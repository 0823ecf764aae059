-- A line cut into its words. Assumes nothing.
use Rattle.std.proofs.Common.{◌≡◌, ℕ, zero, suc, ◌<◌, ◌≤◌, Bool, true, false, cond, eqb, List, [], ◌∷◌, ◌++◌, length, get_or, take, drop, Some, None, IsUtf8, Option, unwrap_or, sym, refl, ap, ◌∙◌, subst, append_assoc, append-nil, add-one, arith, take-append-drop, length-take-le, get_or-take, Bor, MatchOption, not, nat_lt}
use Rattle.std.specs.Str.{IsCharBoundary}
use Rattle.std.specs.List.{AllByRecursion, position, position_or_len}
use Rattle.std.proofs.ByRecursion.{All-from_get_or}
use Rattle.std.proofs.lemmas.List.Sums.{fails_before_first, passes_at_first, prefix_len-le-length}
use Rattle.std.proofs.lemmas.Str.{IsCharBoundary-start, IsCharBoundary-after_ascii}
use Rattle.std.proofs.lemmas.Bool.Decides.{nat_tests}
use Rattle.text.specs.Words.{blank, letter, split, chopped}

abbrev pub Passes : (ℕ → Bool) → ℕ → Type 0
Passes test c = test c ≡ true

-- the letters in front go to the word begun
letters_taken : (part w rest : List ℕ) → AllByRecursion (Passes letter) w → split part (w ++ rest) ≡ split (part ++ w) rest
letters_taken part [] rest h = ap (λ p. split p rest) (sym (append-nil part))
letters_taken part (c ∷ w) rest h =
    let b : blank c ≡ false = grind (arith, nat_tests, h.0) in
    let k : eqb c 35 ≡ false = grind (arith, nat_tests, h.0) in
    rw (b, k) (letters_taken (part ++ (c ∷ [])) w rest h.1 ∙ ap (λ p. split p rest) (append_assoc part (c ∷ []) w))

-- a word that has begun ends where no letter follows
abbrev pub NoLetter : List ℕ → Type 0
NoLetter [] = Unit {0}
NoLetter (c ∷ cs) = letter c ≡ false

word_ends : (c : ℕ) (part rest : List ℕ) → NoLetter rest → split (c ∷ part) rest ≡ (c ∷ part) ∷ split [] rest
word_ends c part [] h = refl
word_ends c part (d ∷ rest) h = ends (blank d) (eqb d 35) refl refl
  where
    ends : (b k : Bool) → blank d ≡ b → eqb d 35 ≡ k → split (c ∷ part) (d ∷ rest) ≡ (c ∷ part) ∷ split [] (d ∷ rest)
    ends true k p q = rw p refl
    ends false true p q = rw (p, q) refl
    ends false false p q = absurd (grind (arith, nat_tests, h, p, q))

pub word_first : (w rest : List ℕ) → AllByRecursion (Passes letter) w → 0 < length w → NoLetter rest
    → split [] (w ++ rest) ≡ w ∷ split [] rest
word_first [] rest h l n = absurd (omega arith)
word_first (c ∷ w) rest h l n = letters_taken [] (c ∷ w) rest h ∙ word_ends c w rest n

-- no blank, and no letter: the line's words are over
abbrev NoBlank : List ℕ → Type 0
NoBlank [] = Unit {0}
NoBlank (c ∷ cs) = blank c ≡ false

words_over : (rest : List ℕ) → NoBlank rest → NoLetter rest → split [] rest ≡ []
words_over [] b h = refl
words_over (c ∷ cs) b h = let k : eqb c 35 ≡ true = grind (arith, nat_tests, b, h) in rw (b, k) refl

-- blanks in front are passed over
gap_passed : (gap rest : List ℕ) → AllByRecursion (Passes blank) gap → split [] (gap ++ rest) ≡ split [] rest
gap_passed [] rest h = refl
gap_passed (c ∷ gap) rest h = rw h.0 (gap_passed gap rest h.1)

-- the first n bytes pass the test, and the next does not
pub record Front (test : ℕ → Bool) (bs : List ℕ) (n : ℕ) : Type 0 where
  pub within : n ≤ length bs
  pub all : (i : ℕ) → i < n → test (get_or bs i 0) ≡ true
  pub stops : n < length bs → test (get_or bs n 0) ≡ false

-- so it is where n is the place of the first that does not, or all there are
pub fronted : (test : ℕ → Bool) (bs : List ℕ) (r : Option ℕ) (n : ℕ) → r ≡ position (λ c. not (test c)) bs →
    n ≡ unwrap_or r (length bs) → Front test bs n
fronted test bs r n found is = subst (Front test bs) (sym at) (record {
  within = few;
  all = λ i l. passed (test (get_or bs i 0)) (fails_before_first fails bs i 0 l);
  stops = λ l. failed (test (get_or bs place 0)) (passes_at_first fails bs 0 l);
})
  where
    fails : ℕ → Bool
    fails c = not (test c)

    place : ℕ
    place = position_or_len fails bs

    few : place ≤ length bs
    few = prefix_len-le-length (λ c. not (fails c)) bs

    passed : (b : Bool) → not b ≡ false → b ≡ true
    passed true e = refl
    passed false e = sym e

    failed : (b : Bool) → not b ≡ true → b ≡ false
    failed true e = sym e
    failed false e = refl

    here : (b : Bool) → nat_lt place (length bs) ≡ b → unwrap_or (cond b (Some place) None) (length bs) ≡ place
    here true e = refl
    here false e = let h = few in grind (arith, nat_tests)

    at : n ≡ place
    at = is ∙ ap (λ o. unwrap_or o (length bs)) found ∙ here (nat_lt place (length bs)) refl

module _ (test : ℕ → Bool) (bs : List ℕ) (n : ℕ) (front : Front test bs n) where
  front_all : AllByRecursion (Passes test) (take n bs)
  front_all =
      All-from_get_or (Passes test) (take n bs) 0
      (λ i l. let k : i < n = omega (arith, length-take-le n bs front.within) in ap test (get_or-take n bs i 0 k) ∙ front.all i k)

  -- what follows begins with a byte that fails the test
  front_after : (P : List ℕ → Type 0) → P [] → ((c : ℕ) (cs : List ℕ) → test c ≡ false → P (c ∷ cs)) → P (drop n bs)
  front_after P none some = after bs n front.within front.stops
    where
      after : (xs : List ℕ) (m : ℕ) → m ≤ length xs → (m < length xs → test (get_or xs m 0) ≡ false) → P (drop m xs)
      after [] zero l h = none
      after [] (suc m) l h = absurd (omega arith)
      after (x ∷ xs) zero l h = some x xs (h (omega arith))
      after (x ∷ xs) (suc m) l h = after xs m (omega arith) (λ k. h (omega arith))

pub gap_cut : (bs : List ℕ) (n : ℕ) → Front blank bs n → IsUtf8 bs → IsCharBoundary bs n
gap_cut bs zero front u = IsCharBoundary-start bs u
gap_cut bs (suc n) front u =
    let low : get_or bs n 0 < 128 = grind (arith, nat_tests, front.all n (omega arith)) in
    subst (IsCharBoundary bs) (add-one n) (IsCharBoundary-after_ascii bs n u (omega (arith, front.within)) low)

pub word_cut : (bs : List ℕ) (n : ℕ) → Front letter bs n → IsCharBoundary bs n
word_cut bs n front = (front.within, λ l high. absurd (wide (get_or bs n 0) (front.stops l) high))
  where
    wide : (c : ℕ) → letter c ≡ false → 128 ≤ c → ⊥
    wide c h k = grind (arith, nat_tests)

module _ (bs rest : List ℕ) (n m : ℕ) (gap : Front blank bs n) (after : rest ≡ drop n bs) (word : Front letter rest m) where
  gap_over : split [] bs ≡ split [] rest
  gap_over =
      ap (split []) (sym (take-append-drop n bs)) ∙ gap_passed (take n bs) (drop n bs) (front_all blank bs n gap)
      ∙ ap (split []) (sym after)

  pub no_word : m ≡ 0 → split [] bs ≡ []
  no_word z =
      gap_over ∙ words_over rest (subst NoBlank (sym after) (front_after blank bs n gap NoBlank tt (λ c cs h. h)))
      (subst (λ k. NoLetter (drop k rest)) z (front_after letter rest m word NoLetter tt (λ c cs h. h)))

  pub one_word : (w left : List ℕ) → (m ≡ 0 → ⊥) → w ≡ take m rest → left ≡ drop m rest
      → split [] bs ≡ w ∷ split [] left
  one_word w left some p q =
      gap_over ∙ ap (split []) (sym (take-append-drop m rest))
      ∙ word_first (take m rest) (drop m rest) (front_all letter rest m word)
      (omega (arith, length-take-le m rest word.within, some)) (front_after letter rest m word NoLetter tt (λ c cs h. h))
      ∙ (λ i. sym p i ∷ split [] (sym q i))

-- the end of a line
chop_end : (c : ℕ) (xs : List ℕ) → chopped c (xs ++ (c ∷ [])) ≡ xs
chop_end c [] = let k : eqb c c ≡ true = grind (arith, nat_tests) in rw k refl
chop_end c (x ∷ []) = ap (λ l. x ∷ l) (chop_end c [])
chop_end c (x ∷ y ∷ ys) = ap (λ l. x ∷ l) (chop_end c (y ∷ ys))

chop_none : (c : ℕ) (xs : List ℕ) → ((front : List ℕ) → xs ≡ front ++ (c ∷ []) → ⊥) → chopped c xs ≡ xs
chop_none c [] h = refl
chop_none c (x ∷ []) h = one (eqb x c) refl
  where
    one : (b : Bool) → eqb x c ≡ b → cond (eqb x c) [] (x ∷ []) ≡ x ∷ []
    one true p = absurd (h [] (ap (λ y. y ∷ []) (let e : x ≡ c = grind (arith, nat_tests, p) in e)))
    one false p = rw p refl
chop_none c (x ∷ y ∷ ys) h =
    ap (λ l. x ∷ l) (chop_none c (y ∷ ys) (λ front e. h (x ∷ front) (ap (λ l. x ∷ l) e)))

pub chopped_by : (c : ℕ) (bs : List ℕ) (r : Option (Bor (List ℕ))) (whole : Bor (List ℕ))
    → MatchOption r ((front : List ℕ) → bs ≡ front ++ (c ∷ []) → ⊥) (λ x. bs ≡ x.now ++ (c ∷ []))
    → whole.now ≡ bs → (unwrap_or r whole).now ≡ chopped c bs
chopped_by c bs None whole h e = e ∙ sym (chop_none c bs h)
chopped_by c bs (Some x) whole h e = sym (ap (chopped c) h ∙ chop_end c x.now)

pub chop_same : (c : ℕ) (xs : List ℕ) → c < 32 → AllByRecursion (λ x. 32 ≤ x) xs → chopped c xs ≡ xs
chop_same c [] l h = refl
chop_same c (x ∷ []) l h = let k : eqb x c ≡ false = grind (arith, nat_tests, h.0) in rw k refl
chop_same c (x ∷ y ∷ ys) l h = ap (λ t. x ∷ t) (chop_same c (y ∷ ys) l h.1)
