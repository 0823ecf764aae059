-- A line spells at most one entry, and what is written spells what was to be written. Assumes nothing.
use Rattle.std.proofs.Common.{◌≡◌, ℕ, suc, ◌^◌, ◌<◌, ◌≤◌, Bool, true, false, cond, eqb, ltb, List, [], ◌∷◌, map, length, ℤ, pos, negsuc, neg_ℤ, Some, None, Ok, Err, codes, decimal, Option, Result, sym, refl, ap, ◌∙◌, subst, inl, inr, arith, lit<}
use Rattle.std.specs.Fmt.{signed_decimal}
use Rattle.std.specs.List.{AllByRecursion}
use Rattle.std.specs.Str.{all_ascii_digits, bytes_eq}
use Rattle.std.proofs.lemmas.Fmt.{digits_decimal, digits_value-decimal, decimal_nonempty}
use Rattle.std.proofs.ByRecursion.{All-append, All-get_or, All-weaker}
use Rattle.std.proofs.lemmas.Bool.Decides.{nat_tests}
use Rattle.text.specs.declared.entry.Format.{Format}
use Rattle.text.specs.declared.entry.Entry.{Entry}
use Rattle.text.specs.declared.entry.Entry.TheVariants.{Basins, Gauges, Wrong, Range, Rate, Gauge, Step, Read, Show, Alarm}
use Rattle.text.specs.declared.error.Field.{Field}
use Rattle.text.specs.declared.error.LineError.{LineError}
use Rattle.text.specs.Faults as faults
use Rattle.text.specs.Lines.{Says, Unsaid, ByWords, Spells, NoWords, Reading, Parses}
use Rattle.text.specs.Numbers.{digits, numeral, read_on, value, Fits, Number, Numbers}
use Rattle.text.specs.Spelling.{Has, name, numbers, fields, spaced, written, Fit}
use Rattle.text.specs.Words.{letter, split, chopped, words}
use Rattle.text.proofs.Splits.{Passes, NoLetter, word_first, chop_same}
use Rattle.text.proofs.Values.{own}

-- the entry of a name and its numbers
named : List (List ℕ × Entry) → List ℕ → Option Entry
named [] w = None
named (k ∷ ks) w = cond (bytes_eq w k.0) (Some k.1) (named ks w)

entry_of : List ℕ → List ℤ → Option Entry
entry_of w [] = named ((codes "step", Step) ∷ (codes "show", Show) ∷ []) w
entry_of w (a ∷ []) = named ((codes "basins", Basins a) ∷ (codes "gauges", Gauges a) ∷ (codes "wrong", Wrong a) ∷ []) w
entry_of w (a ∷ b ∷ []) = named ((codes "alarm", Alarm a b) ∷ []) w
entry_of w (a ∷ b ∷ c ∷ []) =
    named ((codes "range", Range a b c) ∷ (codes "rate", Rate a b c) ∷ (codes "gauge", Gauge a b c) ∷
    (codes "read", Read a b c) ∷ []) w
entry_of w (a ∷ b ∷ c ∷ d ∷ zs) = None

entry_back : (e : Entry) → entry_of (name e) (numbers e) ≡ Some e
unfolding named entry_of
entry_back (Basins n) = refl
entry_back (Gauges n) = refl
entry_back (Wrong n) = refl
entry_back (Range b l m) = refl
entry_back (Rate b r f) = refl
entry_back (Gauge g a b) = refl
entry_back Step = refl
entry_back (Read g l h) = refl
entry_back Show = refl
entry_back (Alarm b l) = refl

-- how many numbers an entry of a name has
count : List ℕ → ℕ
count w =
    cond (bytes_eq w (codes "step")) 0 (cond (bytes_eq w (codes "show")) 0 (cond (bytes_eq w (codes "basins")) 1
    (cond (bytes_eq w (codes "gauges")) 1 (cond (bytes_eq w (codes "wrong")) 1
    (cond (bytes_eq w (codes "alarm")) 2 3)))))

counted : (e : Entry) → (length (fields e) ≡ count (name e)) × (length (numbers e) ≡ count (name e))
unfolding count
counted (Basins n) = (refl, refl)
counted (Gauges n) = (refl, refl)
counted (Wrong n) = (refl, refl)
counted (Range b l m) = (refl, refl)
counted (Rate b r f) = (refl, refl)
counted (Gauge g a b) = (refl, refl)
counted Step = (refl, refl)
counted (Read g l h) = (refl, refl)
counted Show = (refl, refl)
counted (Alarm b l) = (refl, refl)

numbers_same : (ws : List (List ℕ)) (ys zs : List ℤ) → Numbers ws ys → Numbers ws zs → ys ≡ zs
numbers_same [] [] [] h k = refl
numbers_same [] [] (z ∷ zs) h k = absurd k
numbers_same [] (y ∷ ys) zs h k = absurd h
numbers_same (w ∷ ws) [] zs h k = absurd h
numbers_same (w ∷ ws) (y ∷ ys) [] h k = absurd k
numbers_same (w ∷ ws) (y ∷ ys) (z ∷ zs) h k = λ i. (sym h.0.valued ∙ k.0.valued) i ∷ numbers_same ws ys zs h.1 k.1 i

says_same : (format : Format) (w : List ℕ) (ws : List (List ℕ)) (d e : Entry) → Says format w ws d → Says format w ws e → d ≡ e
says_same format w ws d e h k =
    let n : name d ≡ name e = h.1 ∙ sym k.1 in
    let m = numbers_same ws (numbers d) (numbers e) h.2 k.2 in
    let p : Some d ≡ Some e = sym (entry_back d) ∙ (λ i. entry_of (n i) (m i)) ∙ entry_back e in
    cc

-- where something is wrong, the words are not the numbers
not_both : (last : List ℕ) (fs : List Field) (ws : List (List ℕ)) (zs : List ℤ) (x : LineError)
    → length fs ≡ length zs → faults.Wrong last fs ws x → Numbers ws zs → ⊥
not_both last [] [] zs x l h k = h
not_both last [] (w ∷ ws) [] x l h k = k
not_both last [] (w ∷ ws) (z ∷ zs) x l h k = omega arith
not_both last (f ∷ fs) [] [] x l h k = omega arith
not_both last (f ∷ fs) [] (z ∷ zs) x l h k = k
not_both last (f ∷ fs) (w ∷ ws) [] x l h k = k
not_both last (f ∷ fs) (w ∷ ws) (z ∷ zs) x l (inl (inl h)) k = absurd (cc (h.0, k.0.spelled))
not_both last (f ∷ fs) (w ∷ ws) (z ∷ zs) x l (inl (inr h)) k = h.1 (subst Fits (sym k.0.valued) k.0.fits)
not_both last (f ∷ fs) (w ∷ ws) (z ∷ zs) x l (inr h) k = not_both w fs ws zs x (omega arith) h.1 k.1

said_or_not : (format : Format) (w : List ℕ) (ws : List (List ℕ)) (e : Entry) (x : LineError)
    → Says format w ws e → Unsaid format w ws x → ⊥
said_or_not format w ws e x h (inl u) = u.0 e h.0 h.1
said_or_not format w ws e x h (inr (d, has, n, u)) =
    not_both w (fields d) ws (numbers e) x ((counted d).0 ∙ ap count (n ∙ sym h.1) ∙ sym (counted e).1) u h.2

module _ (format : Format) (e : Entry) where
  entries_same : (ws : List (List ℕ)) (d : Entry) → ByWords (λ w vs. Says format w vs d) ws
      → ByWords (λ w vs. Says format w vs e) ws → d ≡ e
  entries_same [] d h k = absurd h
  entries_same (w ∷ ws) d h k = says_same format w ws d e h k

  no_fault : (ws : List (List ℕ)) (x : LineError) → ByWords (λ w vs. Unsaid format w vs x) ws
      → ByWords (λ w vs. Says format w vs e) ws → ⊥
  no_fault [] x h k = h
  no_fault (w ∷ ws) x h k = said_or_not format w ws e x k h

  entry_read : (line : List ℕ) (r : Result (Option Entry) LineError) → Reading format line r → Spells format line e
      → r ≡ Ok (Some e)
  entry_read line (Ok None) h k = absurd (subst (ByWords (λ w vs. Says format w vs e)) h.1 k.1)
  entry_read line (Ok (Some d)) h k = ap (λ y. Ok (Some y)) (entries_same (words line) d h.1 k.1)
  entry_read line (Err x) (inl h) k = absurd (k.0 h.0)
  entry_read line (Err x) (inr h) k = absurd (no_fault (words line) x h.1 k.1)

nothing_read : (format : Format) (line : List ℕ) (r : Result (Option Entry) LineError) → Reading format line r → NoWords line
    → r ≡ Ok None
nothing_read format line (Ok None) h k = refl
nothing_read format line (Ok (Some d)) h k = absurd (subst (ByWords (λ w vs. Says format w vs d)) k.1 h.1)
nothing_read format line (Err x) (inl h) k = absurd (k.0 h.0)
nothing_read format line (Err x) (inr h) k = absurd (subst (ByWords (λ w vs. Unsaid format w vs x)) k.1 h.1)

-- the bytes of what is written: letters of words, from 32 on
abbrev Mark : ℕ → Type 0
Mark c = (letter c ≡ true) × (32 ≤ c)

numeral_digits : (ds : List ℕ) → all_ascii_digits ds ≡ true → 0 < length ds
    → (numeral ds ≡ true) × (value ds ≡ pos (read_on 0 ds))
numeral_digits [] h l = absurd (omega arith)
numeral_digits (c ∷ cs) h l = let k : eqb c 45 ≡ false = grind (arith, nat_tests, h) in (rw k h, rw k refl)

digit_marks : (ds : List ℕ) → all_ascii_digits ds ≡ true → AllByRecursion Mark ds
digit_marks [] h = tt
digit_marks (c ∷ cs) h = ((grind (arith, nat_tests, h), grind (arith, nat_tests, h)), digit_marks cs (grind (arith, nat_tests, h)))

decimal_marks : (n : ℕ) → n < 2 ^ 64 → AllByRecursion Mark (decimal n)
decimal_marks n h = digit_marks (decimal n) (digits_decimal own n h)

signed_marks : (z : ℤ) → Fits z → AllByRecursion Mark (signed_decimal z)
signed_marks (pos n) h = decimal_marks n (omega arith)
signed_marks (negsuc n) h = ((refl, omega arith), decimal_marks (suc n) (omega arith))

signed_some : (z : ℤ) → Fits z → 0 < length (signed_decimal z)
signed_some (pos n) h = decimal_nonempty n (omega arith)
signed_some (negsuc n) h = omega arith

signed_number : (z : ℤ) → Fits z → Number (signed_decimal z) z
signed_number (pos n) h =
    let small : n < 2 ^ 64 = omega arith in
    let d = numeral_digits (decimal n) (digits_decimal own n small) (decimal_nonempty n small) in
    record { spelled = d.0; valued = d.1 ∙ ap pos (digits_value-decimal own n small); fits = h }
signed_number (negsuc n) h =
    let small : suc n < 2 ^ 64 = omega arith in
    record {
      spelled = some (decimal (suc n)) (digits_decimal own (suc n) small) (decimal_nonempty (suc n) small);
      valued = ap (λ k. neg_ℤ (pos k)) (digits_value-decimal own (suc n) small);
      fits = h;
    }
  where
    some : (ds : List ℕ) → all_ascii_digits ds ≡ true → 0 < length ds → digits ds ≡ true
    some [] p l = absurd (omega arith)
    some (c ∷ cs) p l = p

numbers_back : (zs : List ℤ) → AllByRecursion Fits zs → Numbers (map signed_decimal zs) zs
numbers_back [] h = tt
numbers_back (z ∷ zs) h = (signed_number z h.0, numbers_back zs h.1)

letters : (xs : List ℕ) → AllByRecursion Mark xs → AllByRecursion (Passes letter) xs
letters xs h = All-weaker Mark (Passes letter) (λ c k. k.0) xs h

spaced_next : (zs : List ℤ) → NoLetter (spaced zs)
spaced_next [] = tt
spaced_next (z ∷ zs) = refl

spaced_words : (zs : List ℤ) → AllByRecursion Fits zs → split [] (spaced zs) ≡ map signed_decimal zs
spaced_words [] h = refl
spaced_words (z ∷ zs) h =
    word_first (signed_decimal z) (spaced zs) (letters (signed_decimal z) (signed_marks z h.0)) (signed_some z h.0) (spaced_next zs)
    ∙ ap (λ ws. signed_decimal z ∷ ws) (spaced_words zs h.1)

spaced_plain : (zs : List ℤ) → AllByRecursion Fits zs → AllByRecursion (λ c. 32 ≤ c) (spaced zs)
spaced_plain [] h = tt
spaced_plain (z ∷ zs) h = (
  omega arith,
  All-append (λ c. 32 ≤ c) (signed_decimal z) (spaced zs)
      (All-weaker Mark (λ c. 32 ≤ c) (λ c k. k.1) (signed_decimal z) (signed_marks z h.0)) (spaced_plain zs h.1),
)

-- by computing
marked : List ℕ → Bool
marked [] = true
marked (c ∷ cs) = cond (letter c) (cond (ltb c 32) false (marked cs)) false

marks : (xs : List ℕ) → marked xs ≡ true → AllByRecursion Mark xs
unfolding marked
marks [] h = tt
marks (c ∷ cs) h = ((grind (arith, nat_tests, h), grind (arith, nat_tests, h)), marks cs (grind (arith, nat_tests, h)))

name_marks : (e : Entry) → (AllByRecursion Mark (name e)) × (0 < length (name e))
unfolding marked
name_marks (Basins n) = (marks (codes "basins") refl, lit< tt)
name_marks (Gauges n) = (marks (codes "gauges") refl, lit< tt)
name_marks (Wrong n) = (marks (codes "wrong") refl, lit< tt)
name_marks (Range b l m) = (marks (codes "range") refl, lit< tt)
name_marks (Rate b r f) = (marks (codes "rate") refl, lit< tt)
name_marks (Gauge g a b) = (marks (codes "gauge") refl, lit< tt)
name_marks Step = (marks (codes "step") refl, lit< tt)
name_marks (Read g l h) = (marks (codes "read") refl, lit< tt)
name_marks Show = (marks (codes "show") refl, lit< tt)
name_marks (Alarm b l) = (marks (codes "alarm") refl, lit< tt)

module _ (e : Entry) (fit : Fit e) where
  written_plain : AllByRecursion (λ c. 32 ≤ c) (written e)
  written_plain =
      All-append (λ c. 32 ≤ c) (name e) (spaced (numbers e))
      (All-weaker Mark (λ c. 32 ≤ c) (λ c k. k.1) (name e) (name_marks e).0) (spaced_plain (numbers e) fit)

  written_words : words (written e) ≡ name e ∷ map signed_decimal (numbers e)
  written_words =
      ap (split []) (ap (λ l. chopped 13 l) (chop_same 10 (written e) (lit< tt) written_plain)
      ∙ chop_same 13 (written e) (lit< tt) written_plain)
      ∙ word_first (name e) (spaced (numbers e)) (letters (name e) (name_marks e).0) (name_marks e).1 (spaced_next (numbers e))
      ∙ ap (λ ws. name e ∷ ws) (spaced_words (numbers e) fit)

  written_spells : (format : Format) → Has format e → Spells format (written e) e
  written_spells format has = (
    λ nul. let low = All-get_or (λ c. 32 ≤ c) (written e) nul.0 0 nul.1 written_plain in omega (arith, nul.2),
    subst (ByWords (λ w ws. Says format w ws e)) (sym written_words) (has, refl, numbers_back (numbers e) fit),
  )

pub parses : (format : Format) (line : List ℕ) (r : Result (Option Entry) LineError) → Reading format line r → Parses format line r
parses format line r h = record {
  answer = h;
  entry = λ e k. entry_read format e line r h k;
  nothing = λ k. nothing_read format line r h k;
  back = λ e has fit p. entry_read format e line r h (subst (λ l. Spells format l e) (sym p) (written_spells e fit format has));
}
