-- What a line says. Assumes nothing.
use Rattle.std.specs.Prelude.{◌≡◌, ℕ, ◌<◌, ◌⊎◌, List, [], ◌∷◌, length, Some, None, Ok, Err, Option, Result, ◌≢◌, slice_index}
use Rattle.text.specs.declared.entry.Format.{Format}
use Rattle.text.specs.declared.entry.Entry.{Entry}
use Rattle.text.specs.declared.error.LineError.{LineError}
use Rattle.text.specs.declared.words.Words.{Words}
use Rattle.text.specs.Words.{words}
use Rattle.text.specs.Numbers.{Numbers}
use Rattle.text.specs.Faults.{told, not_text, unknown, Wrong}
use Rattle.text.specs.Reader.{left, last_of}
use Rattle.text.specs.Spelling.{Has, name, numbers, fields, written, Fit}

-- a NUL stands somewhere
abbrev pub HasNul : List ℕ → Type 0
HasNul line = (k : ℕ) × (k < length line) × (slice_index line k ≡ 0)

-- the line has no NUL and no words
abbrev pub NoWords : List ℕ → Type 0
NoWords line = (HasNul line → ⊥) × (words line ≡ [])

-- P holds of the first word and those after it
abbrev pub ByWords : (List ℕ → List (List ℕ) → Type 0) → List (List ℕ) → Type 0
ByWords P [] = ⊥
ByWords P (w ∷ ws) = P w ws

module _ (format : Format) where
  -- w and the words after it are the name and the numbers of the entry, which is one of the format
  abbrev pub Says : List ℕ → List (List ℕ) → Entry → Type 0
  Says w ws e = Has format e × (name e ≡ w) × Numbers ws (numbers e)

  -- no entry of the format has the name w, or the words after it are not the numbers that one of that name has
  abbrev pub Unsaid : List ℕ → List (List ℕ) → LineError → Type 0
  Unsaid w ws x =
      (((e : Entry) → Has format e → name e ≢ w) × (told x ≡ unknown w))
      ⊎ ((e : Entry) × Has format e × (name e ≡ w) × Wrong w (fields e) ws x)

  -- the same of what the reader has read and has left
  abbrev pub Names : Words → Entry → Type 0
  Names s e = Says (last_of s) (left s) e

  abbrev pub Refuses : Words → LineError → Type 0
  Refuses s x = Unsaid (last_of s) (left s) x

  -- the line has no NUL, and its words are those of the entry
  abbrev pub Spells : List ℕ → Entry → Type 0
  Spells line e = (HasNul line → ⊥) × ByWords (λ w ws. Says w ws e) (words line)

  -- the line has a NUL, or its words are those of no entry of the format
  abbrev pub Faulty : List ℕ → LineError → Type 0
  Faulty line x =
      (HasNul line × (told x ≡ not_text))
      ⊎ ((HasNul line → ⊥) × ByWords (λ w ws. Unsaid w ws x) (words line))

  -- what `parse` answers
  abbrev pub Reading : List ℕ → Result (Option Entry) LineError → Type 0
  Reading line (Ok None) = NoWords line
  Reading line (Ok (Some e)) = Spells line e
  Reading line (Err x) = Faulty line x

-- all that is said of it
pub record Parses (format : Format) (line : List ℕ) (r : Result (Option Entry) LineError) : Type 0 where
  pub answer : Reading format line r
  -- a line that spells an entry of the format is read as that entry
  pub entry : (e : Entry) → Spells format line e → r ≡ Ok (Some e)
  -- a line without words is passed
  pub nothing : NoWords line → r ≡ Ok None
  -- what is written is read back
  pub back : (e : Entry) → Has format e → Fit e → line ≡ written e → r ≡ Ok (Some e)
