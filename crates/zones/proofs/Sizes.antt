-- The sizes hold over a million steps. Assumes nothing.
use Rattle.std.proofs.Common.{◌≡◌, ℕ, ◌+◌, ◌*◌, ◌≤◌, ◌⊎◌, List, ℤ, subst, inl, inr, arith}
use Rattle.theory.specs.Zone.{Canonical}
use Rattle.bounds.proofs.Laws.{sized_more}
use Rattle.zones.specs.Numbers.{zone_of, no_levels, AllSized}
use Rattle.zones.specs.Change.{reach, Roof}
use Rattle.zones.specs.Run.{started, stepped, met, SizesHold}
use Rattle.zones.proofs.Stepping.{roof_sized}

-- at most so high, and canonical
abbrev AtRest : ℕ → ℕ → List ℤ → Type 0
AtRest n k xs = Canonical n (zone_of n xs) × Roof (100000 + 10000 * k) n xs × AllSized reach n xs

rests : (n k : ℕ) (xs : List ℤ) → k ≤ 1000000 → Canonical n (zone_of n xs) → Roof (100000 + 10000 * k) n xs → AtRest n k xs
rests n k xs h ca ro = (
  ca,
  ro,
  λ i j hi hj. sized_more (100000 + 10000 * k) reach (zone_of n xs i j) (omega arith)
      (roof_sized (100000 + 10000 * k) n xs ca ro i j hi hj),
)

pub sizes_hold : SizesHold
sizes_hold n k xs h (started rs ys s) = inr (rests n 0 ys h s.canonical s.roof)
sizes_hold n k xs h (stepped j rs ws ys r s) = go (sizes_hold n j ws (omega arith) r)
  where
    go : (ws ≡ no_levels n) ⊎ AtRest n j ws → (ys ≡ no_levels n) ⊎ AtRest n (j + 1) ys
    go (inl e) = inl (s.empty e)
    go (inr (ca, ro, sized)) =
        let high = s.roof (100000 + 10000 * j) (omega arith) ca ro in
        inr (rests n (j + 1) ys (omega arith) (s.exact ca sized).0 (subst (λ v. Roof v n ys) (omega arith) high))
sizes_hold n k xs h (met j r ws ys run s) = go (sizes_hold n j ws h run) s.form
  where
    go : (ws ≡ no_levels n) ⊎ AtRest n j ws →
        (ys ≡ no_levels n) ⊎ ((AllSized reach n ws → Canonical n (zone_of n ys)) × ((v : ℕ) → Roof v n ws → Roof v n ys)) →
        (ys ≡ no_levels n) ⊎ AtRest n j ys
    go (inl e) f = inl (s.empty e)
    go (inr a) (inl f) = inl f
    go (inr (ca, ro, sized)) (inr (c, u)) = inr (rests n j ys h (c sized) (u (100000 + 10000 * j) ro))
