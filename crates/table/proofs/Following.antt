-- How the zone of one fault set follows the events. Assumes nothing.
use Rattle.std.proofs.Common.{◌≡◌, ℕ, ◌+◌, ◌*◌, ◌≤◌, Bool, true, false, ◌⊎◌, List, [], ◌∷◌, ℤ, sym, refl, ◌∙◌, subst, inl, inr, arith}
use Rattle.theory.specs.Level.{Ranges}
use Rattle.theory.specs.Zone.{Canonical, Empty}
use Rattle.theory.specs.History as history
use Rattle.theory.specs.Promise.{Kept}
use Rattle.theory.proofs.Keep.{kept_start, kept_step, kept_reading, kept_blamed, kept_empty}
use Rattle.bounds.proofs.Laws.{sized_more}
use Rattle.zones.specs.declared.kinds.Range.{Range}
use Rattle.zones.specs.declared.kinds.Rate.{Rate}
use Rattle.zones.specs.declared.kinds.Reading.{Reading}
use Rattle.zones.specs.Numbers.{zone_of, no_levels, AllSized}
use Rattle.zones.specs.Change.{ranges_of, rates_of, reading_of, step_reach, Roof, Starts, StepsFar, ReadsFar}
use Rattle.zones.proofs.Closing.{no_levels_empty}
use Rattle.zones.proofs.Stepping.{roof_sized}
use Rattle.faults.specs.declared.set.FaultSet.{FaultSet}
use Rattle.faults.specs.Sets.{gauge_set}
use Rattle.table.specs.Parts.{Heeds}
use Rattle.table.specs.Tracks.{AtRest, Follows}

-- ---- the start
pub follows_start : (n : ℕ) (rs : List Range) (w : history.FaultSet) (ys : List ℤ) → Starts n rs ys →
    Follows n 0 (ranges_of rs) w [] ys
follows_start n rs w ys s = record {
  rest = inr (s.canonical, subst (λ h. Roof h n ys) (omega arith) s.roof);
  kept = kept_start n (ranges_of rs) w (zone_of n ys) s.canonical s.levels;
}

module _ (n k : ℕ) (start : Ranges) (w : history.FaultSet) (es : List history.Event) (xs ys : List ℤ)
    (f : Follows n k start w es xs) (few : k ≤ 1000000) where
  -- within reach
  sized : Canonical n (zone_of n xs) → Roof (100000 + 10000 * k) n xs → AllSized step_reach n xs
  sized ca ro i j hi hj =
      sized_more (100000 + 10000 * k) step_reach (zone_of n xs i j) (omega arith)
      (roof_sized (100000 + 10000 * k) n xs ca ro i j hi hj)

  -- without levels
  none_in : xs ≡ no_levels n → Empty n (zone_of n xs)
  none_in e = subst (λ vs. Empty n (zone_of n vs)) (sym e) (no_levels_empty n)

  still_none : (e : history.Event) → xs ≡ no_levels n → ys ≡ no_levels n → Kept n start w (e ∷ es) (zone_of n ys)
  still_none e p q = subst (λ vs. Kept n start w (e ∷ es) (zone_of n vs)) (p ∙ sym q)
      (kept_empty n start w es (zone_of n xs) f.kept e (none_in p))

  -- ---- a step
  pub follows_step : (rs : List Rate) → StepsFar n rs xs ys → Follows n (k + 1) start w (history.step (rates_of rs) ∷ es) ys
  follows_step rs s = go f.rest
    where
      go : AtRest n k xs → Follows n (k + 1) start w (history.step (rates_of rs) ∷ es) ys
      go (inl e) = record { rest = inl (s.empty e); kept = still_none (history.step (rates_of rs)) e (s.empty e) }
      go (inr (ca, ro)) =
          let high = s.roof (100000 + 10000 * k) (omega arith) ca ro in
          record {
            rest = inr (high.0, subst (λ h. Roof h n ys) (omega arith) high.1);
            kept = kept_step n start w es (zone_of n xs) f.kept (zone_of n ys) (rates_of rs) (inl high.0) s.sound
                (s.exact (sized ca ro)).1;
          }

  -- ---- a reading
  pub follows_read : (r : Reading) (a : ℕ) → w a ≡ false → ReadsFar n r xs ys →
      Follows n k start w (history.reads (reading_of a r) ∷ es) ys
  follows_read r a e s = go f.rest s.form
    where
      kept_by : Canonical n (zone_of n ys) ⊎ Empty n (zone_of n ys) →
          Kept n start w (history.reads (reading_of a r) ∷ es) (zone_of n ys)
      kept_by shape = kept_reading n start w es (zone_of n xs) f.kept (zone_of n ys) (reading_of a r) e shape
          (λ x. (s.levels a x).0) (λ x. (s.levels a x).1)

      go : AtRest n k xs →
          (ys ≡ no_levels n) ⊎ ((AllSized step_reach n xs → Canonical n (zone_of n ys)) × ((h : ℕ) → Roof h n xs → Roof h n ys)) →
          Follows n k start w (history.reads (reading_of a r) ∷ es) ys
      go rest (inl none) = record {
        rest = inl none;
        kept = kept_by (inr (subst (λ vs. Empty n (zone_of n vs)) (sym none) (no_levels_empty n)));
      }
      go (inl none) (inr _) = record {
        rest = inl (s.empty none);
        kept = still_none (history.reads (reading_of a r)) none (s.empty none);
      }
      go (inr (ca, ro)) (inr (closed, roof)) =
          let left = closed (sized ca ro) in
          record { rest = inr (left, roof (100000 + 10000 * k) ro); kept = kept_by (inl left) }

  pub follows_blamed : (r : Reading) (a : ℕ) → w a ≡ true → ys ≡ xs →
      Follows n k start w (history.reads (reading_of a r) ∷ es) ys
  follows_blamed r a e same = subst (Follows n k start w (history.reads (reading_of a r) ∷ es)) (sym same)
      record { rest = f.rest; kept = kept_blamed n start w es (zone_of n xs) f.kept (reading_of a r) e }

-- ---- a reading, whichever it is to the set
pub follows_heeds : (n k : ℕ) (start : Ranges) (s : FaultSet) (es : List history.Event) (xs ys : List ℤ) (r : Reading) (a : ℕ) →
    Follows n k start (gauge_set s) es xs → k ≤ 1000000 → Heeds n r a s xs ys →
    Follows n k start (gauge_set s) (history.reads (reading_of a r) ∷ es) ys
follows_heeds n k start s es xs ys r a f few h = go (gauge_set s a) refl
  where
    go : (b : Bool) → gauge_set s a ≡ b → Follows n k start (gauge_set s) (history.reads (reading_of a r) ∷ es) ys
    go true e = follows_blamed n k start (gauge_set s) es xs ys f few r a e (h.blamed e)
    go false e = follows_read n k start (gauge_set s) es xs ys f few r a e (h.trusted e)
