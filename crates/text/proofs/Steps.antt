-- One number after another. Assumes nothing.
use Rattle.std.proofs.Common.{◌≡◌, ℕ, true, false, Some, None, Option, is_some, MatchOption, List, [], ◌∷◌, ◌++◌, ℤ, Ok, Err, Result, IsErrAnd, IsOkAnd, sym, ◌∙◌, subst, append_assoc, inr, suc, ◌+◌, ◌<◌, length, take, drop, set, get_or, add-one, drop-cons, w64, to_z, of_z, Bor, MatchResult, arith, pos, zero}
use Rattle.std.proofs.Math.Seq.{take-suc-set}
use Rattle.std.proofs.lemmas.List.{drop_all}
use Rattle.std.proofs.lemmas.Int.{to_z-of_z}
use Rattle.text.specs.declared.entry.Format.{Format}
use Rattle.text.specs.declared.entry.Entry.{Entry}
use Rattle.text.specs.declared.error.Field.{Field}
use Rattle.text.specs.declared.error.LineError.{LineError}
use Rattle.text.specs.declared.words.Words.{Words}
use Rattle.text.specs.Numbers.{Number, Numbers}
use Rattle.text.specs.Faults as faults
use Rattle.text.specs.Lines.{HasNul, Says, Unsaid, Names, Refuses, ByWords, Reading}
use Rattle.text.specs.Reader.{left, last_of, Next, Takes, Holds, Fails}
use Rattle.text.specs.Spelling.{Has, name, numbers, fields}
use Rattle.text.specs.Words.{words}

-- from s to t the numbers zs were read, of the fields that were wanted `rest` are still to come
pub record ReadUpTo (s t : Words) (zs : List ℤ) (wanted rest : List Field) : Type 0 where
  pub holds : (ys : List ℤ) → Holds t ys → Holds s (zs ++ ys)
  pub fails : (x : LineError) → Fails t rest x → Fails s wanted x

read_more : (s t u : Words) (zs : List ℤ) (wanted rest : List Field) (f : Field) (z : ℤ)
    → ReadUpTo s t zs wanted (f ∷ rest) → Takes t u z → ReadUpTo s u (zs ++ (z ∷ [])) wanted rest
read_more s t u zs wanted rest f z h taken = record {
  holds = λ ys k. rw append_assoc (h.holds (z ∷ ys) (subst (λ ws. Numbers ws (z ∷ ys)) (sym taken.0) (taken.1, k)));
  fails = λ x k. h.fails x (subst (λ ws. faults.Wrong (last_of t) (f ∷ rest) ws x) (sym taken.0) (inr ((z, taken.1), k)));
}

pub read_next : (s t u : Words) (zs : List ℤ) (wanted : List Field) (i : ℕ) (f : Field) (z : ℤ)
    → i < length zs → i < length wanted
    → ReadUpTo s t (take i zs) wanted (drop i wanted) → Takes t u z
    → ReadUpTo s u (take (i + 1) (set zs i (to_z w64 (of_z w64 z)))) wanted (drop (i + 1) wanted)
read_next s t u zs wanted i f z l k h taken =
    let kept : to_z w64 (of_z w64 z) ≡ z = to_z-of_z w64 z (record { sfits = taken.1.fits }) in
    let before = subst (ReadUpTo s t (take i zs) wanted) (drop-cons wanted i f k) h in
    rw (kept, add-one, take-suc-set zs i z l)
    (read_more s t u (take i zs) wanted (drop (suc i) wanted) (get_or wanted i f) z before taken)

-- the numbers that were read, taken one by one out of their array
abbrev pub listed : ℕ → ℕ → List ℤ → List ℤ
listed zero i zs = []
listed (suc n) i zs = to_z w64 (of_z w64 (get_or zs i (pos 0))) ∷ listed n (suc i) zs

numbers_listed : (ws : List (List ℕ)) (n i : ℕ) (zs : List ℤ) → length zs ≡ i + n
    → Numbers ws (drop i zs) → Numbers ws (listed n i zs)
numbers_listed ws zero i zs l h = subst (Numbers ws) (drop_all i zs (omega arith)) h
numbers_listed [] (suc n) i zs l h = absurd (subst (Numbers []) (drop-cons zs i (pos 0) (omega arith)) h)
numbers_listed (w ∷ ws) (suc n) i zs l h =
    let k = subst (Numbers (w ∷ ws)) (drop-cons zs i (pos 0) (omega arith)) h in (
      subst (Number w) (sym (to_z-of_z w64 (get_or zs i (pos 0)) (record { sfits = k.0.fits }))) k.0,
      numbers_listed ws n (suc i) zs (omega arith) k.1,
    )

pub holds_listed : (s : Words) (n : ℕ) (zs : List ℤ) → length zs ≡ n → Holds s zs → Holds s (listed n 0 zs)
holds_listed s n zs l h = numbers_listed (left s) n 0 zs (omega arith) h

-- the name of d has been read, and what follows is not its numbers
module _ (format : Format) (s : Words) (d : Entry) (named : last_of s ≡ name d) (has : Has format d) where
  pub fails_as : (r : Result Entry LineError) (x : LineError) → IsErrAnd r (λ y. y ≡ x) → Fails s (fields d) x
      → MatchResult r (Names format s) (Refuses format s)
  fails_as (Ok e) x h k = absurd h
  fails_as (Err y) x h k = inr (d, has, sym named, subst (Fails s (fields d)) (sym h) k)

  -- and r is made of what follows
  pub made_as : {N : Type 0} (n : Result N LineError) (r : Result Entry LineError) (zs : N → List ℤ) {Made : N → Entry → Type 0}
      → MatchResult n (λ x. Holds s (zs x)) (Fails s (fields d))
      → MatchResult n (λ x. IsOkAnd r (Made x)) (λ x. r ≡ Err x)
      → ((x : N) (e : Entry) → Made x e → Has format e × (name e ≡ name d) × (numbers e ≡ zs x))
      → MatchResult r (Names format s) (Refuses format s)
  made_as (Ok x) (Ok e) zs h made same =
      let m = same x e made in
      (m.0, m.1 ∙ sym named, subst (Holds s) (sym m.2) h)
  made_as (Ok x) (Err y) zs h made same = absurd made
  made_as (Err x) r zs h made same =
      subst (λ q. MatchResult q (Names format s) (Refuses format s)) (sym made) (inr (d, has, sym named, h))

-- what holds of the first word and of those after it
by_first : (P : List ℕ → List (List ℕ) → Type 0) (line : List ℕ) (s t : Words) (w : Bor (List ℕ))
    → left s ≡ words line → Next s t w → P (last_of t) (left t) → ByWords P (words line)
by_first P line s t w e n h = subst (ByWords P) (sym n.0 ∙ e) (subst (λ v. P v (left t)) n.1 h)

-- the line's words from s on, its first one read up to t
module _ (format : Format) (line : List ℕ) (s t : Words) (plain : HasNul line → ⊥) (begun : left s ≡ words line) where
  pub nothing : (first : Option (Bor (List ℕ))) → MatchOption first (left s ≡ []) (Next s t) → is_some first ≡ false
      → Reading format line (Ok None)
  nothing None h e = (plain, sym begun ∙ h)
  nothing (Some w) h e = cc

  -- what is made of an entry is that entry
  pub read : (first : Option (Bor (List ℕ))) (r : Result Entry LineError) (q : Result (Option Entry) LineError)
      {Made : Entry → Option Entry → Type 0}
      → MatchOption first (left s ≡ []) (Next s t) → is_some first ≡ true
      → MatchResult r (Names format t) (Refuses format t)
      → MatchResult r (λ e. IsOkAnd q (Made e)) (λ x. q ≡ Err x)
      → ((e : Entry) (o : Option Entry) → Made e o → o ≡ Some e) → Reading format line q
  read None r q h e k made same = cc
  read (Some w) (Ok d) (Ok o) h e k made same =
      subst (λ y. Reading format line (Ok y)) (sym (same d o made))
      (plain, by_first (λ v vs. Says format v vs d) line s t w begun h k)
  read (Some w) (Ok d) (Err x) h e k made same = absurd made
  read (Some w) (Err x) q h e k made same =
      subst (Reading format line) (sym made)
      (inr (plain, by_first (λ v vs. Unsaid format v vs x) line s t w begun h k))
