-- How a zone stays kept, event by event, for any zone that is known by its levels and its shape alone: whatever code computes
-- it. Assumes nothing.
use Rattle.std.proofs.Common.{◌≡◌, ℕ, true, false, ◌⊎◌, List, [], ◌∷◌, sym, ◌∙◌, inl, inr}
use borrow.Author.Tests.{clash}
use Rattle.theory.specs.Level.{Levels, Ranges, Within, Rates, Moves}
use Rattle.theory.specs.Zone.{Zone, In, Empty, SameLevels, Canonical}
use Rattle.theory.specs.History.{Reading, Right, Event, step, reads, FaultSet, History, begin, moved, agreed}
use Rattle.theory.specs.Promise.{Kept}

-- ---- what a history was before its last event
pub before_event : {n : ℕ} {start : Ranges} {w : FaultSet} {e : Event} {es : List Event} {y : Levels} →
    History n start w (e ∷ es) y → (x : Levels) × History n start w es x
before_event (moved x y r es h m) = (x, h)
before_event (agreed x r es h f) = (x, h)

pub at_start : {n : ℕ} {start : Ranges} {w : FaultSet} {x : Levels} → History n start w [] x → Within n start x
at_start (begin x p) = p

pub before_step : {n : ℕ} {start : Ranges} {w : FaultSet} {es : List Event} {r : Rates} {y : Levels} →
    History n start w (step r ∷ es) y → (x : Levels) × History n start w es x × Moves n r x y
before_step (moved x y r es h m) = (x, h, m)

pub before_reading : {n : ℕ} {start : Ranges} {w : FaultSet} {es : List Event} {r : Reading} {x : Levels} →
    History n start w (reads r ∷ es) x → History n start w es x × (w r.gauge ≡ false → Right r x)
before_reading (agreed x r es h f) = (h, f)

module _ (n : ℕ) (start : Ranges) (w : FaultSet) where
  -- ---- the start
  pub kept_start : (z : Zone) → Canonical n z → ((x : Levels) → (Within n start x → In n z x)
      × (In n z x → Within n start x)) → Kept n start w [] z
  kept_start z ca same = record { shape = inl ca; sound = λ x h. (same x).0 (at_start h); exact = λ x p. begin x ((same x).1 p) }

  module _ (es : List Event) (z : Zone) (kept : Kept n start w es z) where
    -- ---- a zone with the same levels
    pub kept_same : (y : Zone) → Canonical n y ⊎ Empty n y → SameLevels n z y → Kept n start w es y
    kept_same y shape same = record {
      shape = shape;
      sound = λ x h. (same x).0 (kept.sound x h);
      exact =
          λ x p. kept.exact x ((same x).1 p);
    }

    -- ---- a step
    pub kept_step : (y : Zone) (r : Rates) → Canonical n y ⊎ Empty n y → ((a b : Levels) → In n z a → Moves n r a b →
        In n y b) → ((b : Levels) → In n y b → (a : Levels) × In n z a × Moves n r a b) → Kept n start w (step r ∷ es) y
    kept_step y r shape to from = record {
      shape = shape;
      sound = λ b h. let p = before_step h in to p.0 b (kept.sound p.0 p.1) p.2;
      exact = λ b p. let q = from b p in moved q.0 b r es (kept.exact q.0 q.1) q.2;
    }

    -- ---- a reading of a gauge that is not blamed, and of one that is
    pub kept_reading : (y : Zone) (r : Reading) → w r.gauge ≡ false →
        Canonical n y ⊎ Empty n y → ((x : Levels) → In n z x → Right r x → In n y x) → ((x : Levels) → In n y x →
        In n z x × Right r x) → Kept n start w (reads r ∷ es) y
    kept_reading y r e shape to from = record {
      shape = shape;
      sound = λ x h. let p = before_reading h in to x (kept.sound x p.0) (p.1 e);
      exact = λ x p. agreed x r es (kept.exact x (from x p).0) (λ _. (from x p).1);
    }

    pub kept_blamed : (r : Reading) → w r.gauge ≡ true → Kept n start w (reads r ∷ es) z
    kept_blamed r e = record {
      shape = kept.shape;
      sound = λ x h. kept.sound x (before_reading h).0;
      exact = λ x p. agreed x r es (kept.exact x p) (λ f. absurd (clash (sym f ∙ e)));
    }

    -- ---- where there are no levels there are none after any event
    pub kept_empty : (e : Event) → Empty n z → Kept n start w (e ∷ es) z
    kept_empty e none_in = record {
      shape = inr none_in;
      sound = λ x h. let p = before_event h in absurd (none_in p.0 (kept.sound p.0 p.1));
      exact = λ x p. absurd (none_in x p);
    }
