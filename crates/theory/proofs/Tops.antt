-- Numbers up to n, and the greatest of f 0 to f n. Assumes nothing.
use Rattle.std.proofs.Common.{◌≡◌, ℕ, zero, suc, ◌<◌, ◌≤◌, max, ◌⊎◌, ap, inl, inr, arith}
use native.Mathlib.Decide.{dec_lt}

-- the last number below suc m, or one before it
pub before_or : (i m : ℕ) → i < suc m → (i ≡ m) ⊎ (i < m)
before_or i m h = elim (dec_lt i m) [ yes p ↦ inr p | no p ↦ inl (omega arith) ]

-- the greatest of f 0 to f n
abbrev pub top : ℕ → (ℕ → ℕ) → ℕ
top zero f = f 0
top (suc n) f = max (top n f) (f (suc n))

pub top_below : (n : ℕ) (f : ℕ → ℕ) (b : ℕ) → ((i : ℕ) → i ≤ n → f i ≤ b) → top n f ≤ b
top_below zero f b h = h 0 (omega arith)
top_below (suc n) f b h =
    let p = top_below n f b (λ i k. h i (omega arith)) in let q = h (suc n) (omega arith) in omega arith

pub at_top : (n : ℕ) (f : ℕ → ℕ) (i : ℕ) → i ≤ n → f i ≤ top n f
at_top zero f i h = let e : i ≡ 0 = omega arith in rw e (omega arith)
at_top (suc n) f i h = go (before_or i (suc n) (omega arith)) (at_top n f i)
  where
    go : (i ≡ suc n) ⊎ (i < suc n) → (i ≤ n → f i ≤ top n f) → f i ≤ max (top n f) (f (suc n))
    go (inl e) k = let q : f i ≡ f (suc n) = ap f e in omega arith
    go (inr p) k = let q = k (omega arith) in omega arith
