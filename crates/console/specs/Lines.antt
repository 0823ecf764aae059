-- Lines are taken one by one. Assumes nothing: these are definitions.
use Rattle.std.specs.Prelude.{ℕ, ◌+◌, ◌^◌, ◌<◌, List, [], ◌∷◌, ◌++◌, codes, decimal}

-- What holds after so many lines holds after one more, as far as a u64 counts them.
abbrev pub Next : {S : Type 0} → (ℕ → S → Type 0) → S → S → Type 0
Next after s t = (n : ℕ) → n + 1 < 2 ^ 64 → after n s → after (n + 1) t

-- What is printed of a line with which something is wrong.
abbrev pub complaint : ℕ → List ℕ → List ℕ
complaint line said = codes "line " ++ (decimal line ++ (codes ": " ++ (said ++ 10 ∷ [])))
