-- A loop over the rows of a zone, and one over the numbers of a row. Assumes nothing.
use Rattle.std.proofs.Common.{◌≡◌, ℕ, ◌+◌, ◌*◌, ◌<◌, ◌≤◌, List, length, get_or, sym, subst, ◌∙◌, arith, rules, ⊎_elim, length-take, length-drop}
use Rattle.std.proofs.lemmas.List.{places}
use Rattle.std.proofs.lemmas.Nat.{mul-add-lt}
use Rattle.std.proofs.lemmas.Bool.{cases_lt}
use borrow.Rule.Slice.PartMut.{put_mid, mid_of}

module _ {A : Type 0} (a k : ℕ) (xs ys : List A) (fits : a + k ≤ length xs) (long : length ys ≡ k) (d : A) where
  pub part_before : (m : ℕ) → m < a → get_or (put_mid a k xs ys) m d ≡ get_or xs m d
  part_before m h = search (rules, places)

  pub part_in : (m : ℕ) → m < k → get_or (put_mid a k xs ys) (a + m) d ≡ get_or ys m d
  part_in m h = search (rules, places)

  pub part_after : (m : ℕ) → a + k ≤ m → get_or (put_mid a k xs ys) m d ≡ get_or xs m d
  part_after m h = search (rules, places)

  pub part_was : (m : ℕ) → m < k → get_or (mid_of a k xs) m d ≡ get_or xs (a + m) d
  part_was m h = search (rules, places)

-- the numbers of a row below j have become what P says, and the others are as they were
pub record RowTo {A : Type 0} (P : ℕ → A → A → Type 0) (j : ℕ) (xs ys : List A) : Type 0 where
  pub done : (b : ℕ) → b < j → (d : A) → P b (get_or xs b d) (get_or ys b d)
  pub rest : (b : ℕ) → j ≤ b → (d : A) → get_or ys b d ≡ get_or xs b d

-- the same of the rows below i
pub record RowsTo {A : Type 0} (n : ℕ) (P : ℕ → ℕ → A → A → Type 0) (i : ℕ) (xs ys : List A) : Type 0 where
  pub done : (a b : ℕ) → b ≤ n → a < i → (d : A) → P a b (get_or xs (a * (n + 1) + b) d) (get_or ys (a * (n + 1) + b) d)
  pub rest : (a b : ℕ) → b ≤ n → i ≤ a → (d : A) → get_or ys (a * (n + 1) + b) d ≡ get_or xs (a * (n + 1) + b) d

module _ {A : Type 0} (n : ℕ) (P : ℕ → ℕ → A → A → Type 0) (i j k : ℕ) (xs ys row : List A) (hi : i ≤ n)
    (long : length ys ≡ (n + 1) * (n + 1)) (wide : k ≡ n + 1) (same : length row ≡ length (mid_of (i * (n + 1)) k ys))
    (all : length (mid_of (i * (n + 1)) k ys) ≤ j) (t : RowsTo n P i xs ys)
    (u : RowTo (P i) j (mid_of (i * (n + 1)) k ys) row) where
  within : i * (n + 1) + k ≤ length ys
  within = let p = mul-add-lt i (n + 1) n (n + 1) (omega arith) (omega arith) in omega arith

  part_long : length (mid_of (i * (n + 1)) k ys) ≡ k
  part_long = let p = within in omega (arith, length-take {A = A}, length-drop {A = A})

  pub rows_more : RowsTo n P (i + 1) xs (put_mid (i * (n + 1)) k ys row)
  rows_more =
      let is : length row ≡ k = same ∙ part_long in let p = part_long in
      record {
        done = λ a b hb h d. ⊎_elim
            (λ l.
            let below : a * (n + 1) + b < i * (n + 1) = let p = mul-add-lt a (n + 1) b i l (omega arith) in omega arith in
            subst (P a b (get_or xs (a * (n + 1) + b) d)) (sym (part_before (i * (n + 1)) k ys row within is d _ below))
            (t.done a b hb l d))
            (λ l.
            let e : a ≡ i = omega arith in
            let was : get_or (mid_of (i * (n + 1)) k ys) b d ≡ get_or xs (i * (n + 1) + b) d =
            part_was (i * (n + 1)) k ys row within is d b (omega arith) ∙ t.rest i b hb (omega arith) d in
            rw (e, part_in (i * (n + 1)) k ys row within is d b (omega arith), ← was) (u.done b (omega arith) d))
            (cases_lt a i);
        rest = λ a b hb h d.
            let above : i * (n + 1) + k ≤ a * (n + 1) + b =
            let p = mul-add-lt i (n + 1) n a (omega arith) (omega arith) in omega arith in
            part_after (i * (n + 1)) k ys row within is d _ above ∙ t.rest a b hb (omega arith) d;
      }
