-- A zone over lent numbers, in the code. Assumes nothing: these are definitions.
use Rattle.std.specs.Prelude.{◌≡◌, ℕ, ◌+◌, ◌*◌, ◌≤◌, List, slice_index_or}
use Rattle.zones.specs.declared.zone.Zone.{Zone}

-- The same numbers are lent, of as many basins.
abbrev pub SameLoan : {A : Type 0} → Zone A → Zone A → Type 0
SameLoan z y = (y.basins ≡ z.basins) × (y.numbers.ghost_name ≡ z.numbers.ghost_name)

-- P holds of each row and column, and of what stood there and stands there now.
abbrev pub Each : {A : Type 0} → ℕ → List A → List A → (ℕ → ℕ → A → A → Type 0) → Type 0
Each {A} n xs ys P =
    (i j : ℕ) → i ≤ n → j ≤ n → (d : A) → P i j (slice_index_or xs (i * (n + 1) + j) d) (slice_index_or ys (i * (n + 1) + j) d)
