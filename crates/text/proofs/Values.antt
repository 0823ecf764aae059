-- Words as numbers. Assumes nothing.
use Rattle.std.proofs.Common.{◌≡◌, ℕ, zero, suc, ◌^◌, ◌<◌, ◌≤◌, Bool, true, false, cond, ◌&&◌, eqb, List, [], ◌∷◌, length, ℤ, pos, neg_ℤ, Some, None, Ok, Err, Option, Result, unwrap_or, sym, refl, ap, ◌∙◌, subst, arith, w64, Bor, rules, MatchOption, MatchResult, IsErrAnd, inr}
use Rattle.std.specs.Result.{OkIff}
use Rattle.std.specs.Str.Parse.{ParsesSigned}
use Rattle.std.specs.Char.{is_ascii_digit}
use Rattle.std.specs.List.{list_all}
use Rattle.std.specs.Str.{all_ascii_digits}
use Rattle.std.proofs.lemmas.Str.Parse.{IsNumeralModel, numerals_by_fold, parse_signed_minus, parse_signed_digits}
use Rattle.std.proofs.lemmas.Bool.Decides.{nat_tests}
use Rattle.text.specs.declared.error.Field.{Field}
use Rattle.text.specs.declared.error.LineError.{LineError}
use Rattle.text.specs.Faults.{told, too_large, NoNumber}
use Rattle.text.specs.Numbers.{digits, numeral, read_on, value, Fits, Number}

pub own : IsNumeralModel (λ ds. all_ascii_digits ds ≡ true) (read_on 0)
own = numerals_by_fold _ (search rules) read_on (search rules)

-- as the code asks for them
pub digits_all : (ds : List ℕ) → list_all is_ascii_digit ds ≡ all_ascii_digits ds
digits_all [] = refl
digits_all (c ∷ cs) = ap (λ b. is_ascii_digit c && b) (digits_all cs)

pub digits_some : (ds : List ℕ) → 0 < length ds → digits ds ≡ all_ascii_digits ds
digits_some [] l = absurd (omega arith)
digits_some (c ∷ cs) l = refl

digits_parts : (ds : List ℕ) → digits ds ≡ true → (all_ascii_digits ds ≡ true) × (0 < length ds)
digits_parts [] h = cc
digits_parts (c ∷ cs) h = (h, omega arith)

pub numeral_by : (bs : List ℕ) (r : Option (Bor (List ℕ))) (whole : Bor (List ℕ))
    → MatchOption r ((rest : List ℕ) → bs ≡ 45 ∷ rest → ⊥) (λ x. bs ≡ 45 ∷ x.now)
    → whole.now ≡ bs → numeral bs ≡ digits (unwrap_or r whole).now
numeral_by [] None whole h e = sym (ap digits e)
numeral_by (c ∷ cs) None whole h e = plain (eqb c 45) refl ∙ sym (ap digits e)
  where
    plain : (b : Bool) → eqb c 45 ≡ b → cond (eqb c 45) (digits cs) (digits (c ∷ cs)) ≡ digits (c ∷ cs)
    plain true p = absurd (h cs (ap (λ y. y ∷ cs) (let q : c ≡ 45 = grind (arith, nat_tests, p) in q)))
    plain false p = rw p refl
numeral_by bs (Some x) whole h e = ap numeral h

converted_like : {T E : Type 0} (r : Result T E) {P Q : Type 0} {u v : T} → OkIff r P u → (P → Q) → (Q → P)
    → u ≡ v → OkIff r Q v
converted_like (Ok x) h f g e = (f h.0, h.1 ∙ e)
converted_like (Err x) h f g e = λ q. h (g q)

minus_fits : (n : ℕ) → n ≤ 2 ^ 63 → Fits (neg_ℤ (pos n))
minus_fits zero h = omega arith
minus_fits (suc n) h = omega arith

fits_minus : (n : ℕ) → Fits (neg_ℤ (pos n)) → n ≤ 2 ^ 63
fits_minus zero h = omega arith
fits_minus (suc n) h = omega arith

pub parsed : {E : Type 0} (w : List ℕ) (r : Result ℤ E) → ParsesSigned w64 10 w r → numeral w ≡ true
    → OkIff r (Fits (value w)) (value w)
parsed [] r h n = cc
parsed {E} (c ∷ cs) r h n = by (eqb c 45) refl
  where
    by : (b : Bool) → eqb c 45 ≡ b → OkIff r (Fits (value (c ∷ cs))) (value (c ∷ cs))
    by true p =
        let d = digits_parts cs (rw p at n) in
        rw p (converted_like r (parse_signed_minus own w64 (c ∷ cs) r h (let q : c ≡ 45 = grind (arith, nat_tests, p) in q))
        (λ k. minus_fits (read_on 0 cs) k.2) (λ k. (d.0, d.1, fits_minus (read_on 0 cs) k)) refl)
    by false p =
        let d : all_ascii_digits (c ∷ cs) ≡ true = rw p at n in
        rw p (converted_like r (parse_signed_digits own w64 (c ∷ cs) r h d) (λ k. k.1) (λ k. (omega arith, k)) refl)

-- the number of a numeral that an i64 holds, and else the error that r has for it
pub number_read : {E : Type 0} (w : List ℕ) (f : Field) (p : Result ℤ E) (r : Result ℤ LineError) {Made : E → LineError → Type 0}
    → ParsesSigned w64 10 w p → numeral w ≡ true
    → MatchResult p (λ z. r ≡ Ok z) (λ e. IsErrAnd r (Made e))
    → ((e : E) (x : LineError) → Made e x → told x ≡ too_large f w)
    → MatchResult r (Number w) (NoNumber f w)
number_read {E} w f (Ok z) r h n made large =
    let k = parsed {E = E} w (Ok z) h n in
    subst (λ q. MatchResult q (Number w) (NoNumber f w)) (sym made)
    (record { spelled = n; valued = sym k.1; fits = subst Fits (sym k.1) k.0 })
number_read w f (Err e) (Ok z) h n made large = absurd made
number_read w f (Err e) (Err x) h n made large =
    inr (n, parsed w (Err e) h n, large e x made)
