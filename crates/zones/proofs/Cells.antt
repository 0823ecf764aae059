-- The cells of a zone in lent numbers: where each stands, and what a write does to them. Assumes nothing.
use Rattle.std.proofs.Common.{◌≡◌, ℕ, ◌+◌, ◌*◌, ◌/◌, ◌%◌, ◌<◌, ◌≤◌, ◌≢◌, List, length, set, ℤ, pos, sym, ap, ◌∙◌, arith}
use Rattle.std.proofs.lemmas.Nat.{mul-add-lt, div-mul-add, mod-mul-add}
use Rattle.std.proofs.lemmas.List.{get_or-set_same, get_or-set_other}
use Rattle.zones.specs.Numbers.{cell}

-- where the number of a over b stands
abbrev pub place : ℕ → ℕ → ℕ → ℕ
place n a b = a * (n + 1) + b

pub place_within : (n a b : ℕ) → a ≤ n → b ≤ n → place n a b < (n + 1) * (n + 1)
place_within n a b ha hb =
    let p : a < n + 1 = omega arith in let q : b < n + 1 = omega arith in mul-add-lt a (n + 1) b (n + 1) p q

pub same_row : (n a b i j : ℕ) → b ≤ n → j ≤ n → place n a b ≡ place n i j → a ≡ i
same_row n a b i j hb hj e =
    let p : b < n + 1 = omega arith in let q : j < n + 1 = omega arith in
    sym (div-mul-add a (n + 1) b p) ∙ ap (λ v. v / (n + 1)) e ∙ div-mul-add i (n + 1) j q

pub same_column : (n a b i j : ℕ) → b ≤ n → j ≤ n → place n a b ≡ place n i j → b ≡ j
same_column n a b i j hb hj e =
    let p : b < n + 1 = omega arith in let q : j < n + 1 = omega arith in
    sym (mod-mul-add a (n + 1) b p) ∙ ap (λ v. v % (n + 1)) e ∙ mod-mul-add i (n + 1) j q

pub cell_same : (n : ℕ) (xs : List ℤ) (i j : ℕ) (v : ℤ) → i ≤ n → j ≤ n → length xs ≡ (n + 1) * (n + 1) →
    cell n (set xs (place n i j) v) i j ≡ v
unfolding cell
cell_same n xs i j v hi hj long = get_or-set_same xs (place n i j) v (pos 0) (let p = place_within n i j hi hj in omega arith)

pub cell_other : (n : ℕ) (xs : List ℤ) (i j a b : ℕ) (v : ℤ) → place n a b ≢ place n i j →
    cell n (set xs (place n i j) v) a b ≡ cell n xs a b
unfolding cell
cell_other n xs i j a b v ne = get_or-set_other xs (place n i j) (place n a b) v (pos 0) ne
