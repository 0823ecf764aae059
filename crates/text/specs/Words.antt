-- The words of a line. Assumes nothing.
use Rattle.std.specs.Prelude.{ℕ, Bool, cond, not, ◌&&◌, ◌||◌, List, [], ◌∷◌, ◌++◌, ◌==◌}

-- a space or a tab
abbrev pub blank : ℕ → Bool
blank c = c == 32 || c == 9

-- a byte of a word: no blank, and no '#'
abbrev pub letter : ℕ → Bool
letter c = not (blank c) && not (c == 35)

-- a word that has ended, before the words that follow; an empty one is none
abbrev pub ended : List ℕ → List (List ℕ) → List (List ℕ)
ended [] ws = ws
ended (c ∷ cs) ws = (c ∷ cs) ∷ ws

-- the words of the rest of a line, where `part` is the word begun: a blank ends a word, and '#' the words
abbrev pub split : List ℕ → List ℕ → List (List ℕ)
split part [] = ended part []
split part (c ∷ cs) =
    cond (blank c) (ended part (split [] cs)) (cond (c == 35) (ended part []) (split (part ++ (c ∷ [])) cs))

-- without a byte c at the end
abbrev pub chopped : ℕ → List ℕ → List ℕ
chopped c [] = []
chopped c (x ∷ []) = cond (x == c) [] (x ∷ [])
chopped c (x ∷ y ∷ ys) = x ∷ chopped c (y ∷ ys)

-- a line without its end: LF, CR LF, CR or nothing
abbrev pub unended : List ℕ → List ℕ
unended line = chopped 13 (chopped 10 line)

abbrev pub words : List ℕ → List (List ℕ)
words line = split [] (unended line)
