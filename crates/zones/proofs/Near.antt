-- What holds of a closing, a step and a reading for larger numbers holds for smaller ones. Assumes nothing.
use Rattle.std.proofs.Common.{◌≡◌, ℕ, ◌≤◌, Bool, ◌⊎◌, List, ℤ, inl, inr, arith}
use Rattle.theory.specs.Bound.{NoLarger}
use Rattle.theory.specs.Zone.{Empty, Canonical}
use Rattle.theory.proofs.Reach.{some_levels}
use Rattle.bounds.proofs.Laws.{sized_more}
use Rattle.zones.specs.declared.kinds.Rate.{Rate}
use Rattle.zones.specs.declared.kinds.Reading.{Reading}
use Rattle.zones.specs.Numbers.{zone_of, no_levels, AllSized, limit, closing_reach, Turns, TurnsFar, FarForm, Closes, ClosesFar}
use Rattle.zones.specs.Change.{reach, step_reach, Roof, Steps, StepsFar, Reads, ReadsFar}

sized_in : (g h n : ℕ) (xs : List ℤ) → g ≤ h → AllSized g n xs → AllSized h n xs
sized_in g h n xs l s i j hi hj = sized_more g h (zone_of n xs i j) l (s i j hi hj)

pub turns_near : (n : ℕ) (xs : List ℤ) (r : Bool) (ys : List ℤ) → TurnsFar n xs r ys → Turns n xs r ys
turns_near n xs r ys t = record {
  levels = t.levels;
  smaller = t.smaller;
  closed = λ e s. t.closed e (sized_in limit closing_reach n xs (omega arith) s);
  empty = t.empty;
}

pub closes_near : (n : ℕ) (xs ys : List ℤ) → ClosesFar n xs ys → Closes n xs ys
closes_near n xs ys c = record { levels = c.levels; form = form c.form }
  where
    form : FarForm n xs ys → (ys ≡ no_levels n)
        ⊎ (((i j : ℕ) → i ≤ n → j ≤ n → NoLarger (zone_of n ys i j) (zone_of n xs i j))
        × (AllSized limit n xs → Canonical n (zone_of n ys)))
    form (inl e) = inl e
    form (inr (sm, ca)) = inr (sm, λ s. ca (sized_in limit closing_reach n xs (omega arith) s))

pub steps_near : (n : ℕ) (rs : List Rate) (xs ys : List ℤ) → StepsFar n rs xs ys → Steps n rs xs ys
steps_near n rs xs ys t = record {
  sound = t.sound;
  exact = λ ca s. let e = t.exact (sized_in reach step_reach n xs (omega arith) s) in (canonical ca e.0, e.1);
  roof = λ h l ca ro. (t.roof h (omega arith) ca ro).1;
  empty = t.empty;
}
  where
    canonical : Canonical n (zone_of n xs) → ((ys ≡ no_levels n) × Empty n (zone_of n xs)) ⊎ Canonical n (zone_of n ys)
        → Canonical n (zone_of n ys)
    canonical ca (inl (e, none)) = let l = some_levels n (zone_of n xs) ca in absurd (none l.0 l.1)
    canonical ca (inr left) = left

pub reads_near : (n : ℕ) (r : Reading) (xs ys : List ℤ) → ReadsFar n r xs ys → Reads n r xs ys
reads_near n r xs ys t = record { levels = t.levels; form = form t.form; empty = t.empty }
  where
    form :
        (ys ≡ no_levels n) ⊎ ((AllSized step_reach n xs → Canonical n (zone_of n ys)) × ((h : ℕ) → Roof h n xs → Roof h n ys))
        → (ys ≡ no_levels n) ⊎ ((AllSized reach n xs → Canonical n (zone_of n ys)) × ((h : ℕ) → Roof h n xs → Roof h n ys))
    form (inl e) = inl e
    form (inr (ca, ro)) = inr (λ s. ca (sized_in reach step_reach n xs (omega arith) s), ro)
