-- One write of the sharper of two numbers: the zone meets one more bound. Assumes nothing.
use Rattle.std.proofs.Common.{◌≡◌, ℕ, ◌+◌, ◌*◌, ◌^◌, ◌≤◌, Bool, true, false, cond, eqb, List, length, set, ℤ, pos, ◌≤ℤ◌, sym, refl, ap, ◌∙◌, ap₂, ⊎_elim, arith, eq-eqb, eqb-true}
use Rattle.std.specs.Int.{int_min}
use Rattle.std.proofs.lemmas.Int.{ints}
use Rattle.std.proofs.lemmas.Bool.{cases_eq}
use Rattle.theory.specs.Bound.{Bound, at_most, NoLarger, sharper}
use Rattle.theory.specs.Level.{Levels, difference}
use Rattle.theory.specs.Zone.{Zone, In, meet}
use Rattle.theory.proofs.Bounds.{of_sharper}
use Rattle.theory.proofs.Meet.{meet_smaller, meeting}
use Rattle.theory.proofs.Track.{Same, same_levels}
use Rattle.bounds.specs.Meaning.{bound_of, Sized}
use Rattle.bounds.proofs.Laws.{sharper_means}
use Rattle.zones.specs.Numbers.{cell, zone_of, AllSized}
use Rattle.zones.proofs.Cells.{place, same_row, same_column, cell_same, cell_other}

-- a small number is a bound
pub bound_is : (v : ℤ) → v ≤ℤ pos (2 ^ 62) → bound_of v ≡ at_most v
unfolding bound_of
bound_is v h = grind (arith, ints)

-- a meet leaves every other bound
meet_other : (p q : ℕ) (b : Bound) (z : Zone) (i j : ℕ) → (i ≡ p → j ≡ q → ⊥) → meet p q b z i j ≡ z i j
meet_other p q b z i j ne = by_test (eqb i p) (eqb j q) (eqb-true i p) (eqb-true j q)
  where
    by_test : (s t : Bool) → (s ≡ true → i ≡ p) → (t ≡ true → j ≡ q) → cond s (cond t (sharper (z i j) b) (z i j)) (z i j) ≡ z i j
    by_test true true f g = absurd (ne (f refl) (g refl))
    by_test true false f g = refl
    by_test false t f g = refl

meet_sized : (p q : ℕ) (b : Bound) (z : Zone) (h i j : ℕ) → Sized h b → Sized h (z i j) → Sized h (meet p q b z i j)
meet_sized p q b z h i j sb s = by_test (eqb i p) (eqb j q)
  where
    by_test : (t u : Bool) → Sized h (cond t (cond u (sharper (z i j) b) (z i j)) (z i j))
    by_test true true = of_sharper (Sized h) (z i j) b s sb
    by_test true false = s
    by_test false u = s

-- ---- a write of the sharper of two is a meet
write_meets : (n : ℕ) (xs : List ℤ) (p q : ℕ) (b : ℤ) → p ≤ n → q ≤ n → length xs ≡ (n + 1) * (n + 1) →
    Same n (meet p q (bound_of b) (zone_of n xs)) (zone_of n (set xs (place n p q) (int_min (cell n xs p q) b)))
write_meets n xs p q b hp hq long i j hi hj = ⊎_elim
    (λ e.
    let r : i ≡ p = same_row n i j p q hj hq e in let s : j ≡ q = same_column n i j p q hj hq e in
    let m : meet p q (bound_of b) (zone_of n xs) p q ≡ sharper (zone_of n xs p q) (bound_of b) =
    rw (eq-eqb p p refl, eq-eqb q q refl) in
    rw (r, s) (ap bound_of (cell_same n xs p q _ hp hq long) ∙ sharper_means (cell n xs p q) b ∙ sym m))
    (λ ne. ap bound_of (cell_other n xs p q i j _ ne) ∙ sym
    (meet_other p q (bound_of b) (zone_of n xs) i j (λ r s. ne (ap₂ (place n) r s))))
    (cases_eq (place n i j) (place n p q))

-- what the write leaves of the numbers xs
pub record Met (n p q : ℕ) (b : ℤ) (xs ys : List ℤ) : Type 0 where
  pub to : (x : Levels) → In n (zone_of n xs) x → difference x p q ≤ℤ b → In n (zone_of n ys) x
  pub from : (x : Levels) → In n (zone_of n ys) x → In n (zone_of n xs) x × (difference x p q ≤ℤ b)
  pub smaller : (i j : ℕ) → i ≤ n → j ≤ n → NoLarger (zone_of n ys i j) (zone_of n xs i j)
  pub sized : (h : ℕ) → Sized h (at_most b) → AllSized h n xs → AllSized h n ys

pub met : (n : ℕ) (xs : List ℤ) (p q : ℕ) (b : ℤ) → p ≤ n → q ≤ n → length xs ≡ (n + 1) * (n + 1) → b ≤ℤ pos (2 ^ 62) →
    Met n p q b xs (set xs (place n p q) (int_min (cell n xs p q) b))
met n xs p q b hp hq long small =
    let z : Zone = zone_of n xs in
    let y : Zone = zone_of n (set xs (place n p q) (int_min (cell n xs p q) b)) in
    let same : Same n (meet p q (at_most b) z) y = λ i j hi hj. write_meets n xs p q b hp hq long i j hi hj
    ∙ ap (λ v. meet p q v z i j) (bound_is b small) in
    let w = same_levels n (meet p q (at_most b) z) y same in
    let m = meeting n z p q (at_most b) hp hq in
    record {
      to = λ x l h. (w x).0 ((m x).0 l h);
      from = λ x l. (m x).1 ((w x).1 l);
      smaller = λ i j hi hj. rw (same i j hi hj) (meet_smaller p q (at_most b) z i j);
      sized = λ h sb s i j hi hj. rw (same i j hi hj) (meet_sized p q (at_most b) z h i j sb (s i j hi hj));
    }
