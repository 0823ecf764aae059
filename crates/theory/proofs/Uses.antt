-- Each theorem on a concrete instance, so that none has a premise that nobody can meet. Assumes nothing.
use Rattle.std.proofs.Common.{◌≡◌, ℕ, zero, suc, [], ◌∷◌, ℤ, pos, ◌≤ℤ◌, refl, arith, lit≤}
use borrow.Author.Differences.{ints}
use Rattle.theory.specs.Bound.{Bound, none, at_most, zero_bound, NoLarger}
use Rattle.theory.specs.Level.{Levels, difference, Ranges, Ordered}
use Rattle.theory.specs.Zone.{In, Canonical, Tame, first_zone, widen, relax, close}
use Rattle.theory.specs.History.{step}
use Rattle.theory.specs.Possible.{Possible, NonePossible, Explained}
use Rattle.theory.specs.Computed.{no_faults, zone_in, zone_after}
use Rattle.theory.specs.Promise.{Kept}
use Rattle.theory.specs.Example.{ranges, rates, at_1, at_2, so_far}
use Rattle.theory.proofs.Bounds.{no_larger_of}
use Rattle.theory.proofs.Reach.{reached, unbounded, unique}
use Rattle.theory.proofs.Meet.{first, meeting}
use Rattle.theory.proofs.Close.{relaxing, closing}
use Rattle.theory.proofs.Widen.{widening}
use Rattle.theory.proofs.Track.{always_kept}
use Rattle.theory.proofs.Trajectories.{wrong_or_blamed, stays_so, less_possible, order_free}
use Rattle.theory.proofs.Shown.{sharpest}
use Rattle.theory.proofs.Example.{ordered, placed_2, worked_example}

-- ---- the first zone of the example
canonical : Canonical 2 (first_zone ranges)
canonical = (first 2 ranges ordered).0

tame : Tame 2 (first_zone ranges)
tame i hi = no_larger_of (canonical.closed.itself i hi)

-- basin 1 can be at 100
at_100 : (x : Levels) × In 2 (first_zone ranges) x × (difference x 1 0 ≡ pos 100)
at_100 = reached 2 (first_zone ranges) 1 0 (pos 100) canonical (lit≤ tt) (lit≤ tt) refl

same : first_zone ranges 1 2 ≡ first_zone ranges 1 2
same = unique 2 (first_zone ranges) (first_zone ranges) canonical canonical (λ x. (λ p. p, λ p. p)) 1 2 (lit≤ tt) (lit≤ tt)

still_there : In 2 (first_zone ranges) at_100.0
still_there = ((meeting 2 (first_zone ranges) 1 0 (at_most (pos 100)) (lit≤ tt) (lit≤ tt) at_100.0).1
    ((meeting 2 (first_zone ranges) 1 0 (at_most (pos 100)) (lit≤ tt) (lit≤ tt) at_100.0).0 at_100.1 (let e =
    at_100.2 in omega (arith, ints)))).0

relaxed_there : In 2 (relax 2 (first_zone ranges)) at_100.0
relaxed_there = ((relaxing 2 (first_zone ranges) 2 (lit≤ tt)).1 at_100.0).0 at_100.1

closed_there : In 2 (close 2 (first_zone ranges)) at_100.0
closed_there = ((closing 2 (first_zone ranges) tame).0 at_100.0).0 at_100.1

widened_there : In 2 (widen rates (first_zone ranges)) at_100.0
widened_there = (widening 2 rates (first_zone ranges) canonical).0 at_100.0 at_100.0 at_100.1
    record { datum = at_100.1.datum; rises = λ i hi. omega arith; falls = λ i hi. omega arith }

-- ---- a basin of which nothing is known
abbrev open_most : ℕ → Bound
open_most zero = zero_bound
open_most (suc i) = none

abbrev open_ranges : Ranges
open_ranges = record { least = λ i. 0; most = open_most; datum = (refl, refl) }

-- its level passes every number
as_high_as_you_like : (c : ℤ) → (x : Levels) × In 1 (first_zone open_ranges) x × (c ≤ℤ difference x 1 0)
as_high_as_you_like = unbounded 1 (first_zone open_ranges) 1 0 (first 1 open_ranges all_open).0 (lit≤ tt) (lit≤ tt) refl
  where
    all_open : Ordered 1 open_ranges
    all_open zero h = (lit≤ tt, omega (arith, ints))
    all_open (suc i) h = (lit≤ tt, tt)

-- ---- the events of the example
-- levels with the difference 62 that are possible after two readings
farthest : (x : Levels) × Possible 2 3 1 ranges (so_far 2) x × (difference x 1 2 ≡ pos 62)
farthest = worked_example.0.2.1.reached

kept : Kept 2 ranges no_faults (so_far 2) (zone_in 2 (zone_after 2 ranges no_faults (so_far 2)))
kept = (always_kept 2 ranges no_faults (so_far 2) ordered placed_2).0

explained : Explained 2 3 1 ranges (so_far 2) farthest.0
explained = ((wrong_or_blamed 2 3 1 ranges (so_far 2)).0 farthest.0).0 farthest.1

exchanged : Possible 2 3 1 ranges (at_1 48 52 ∷ at_2 38 42 ∷ []) farthest.0
exchanged = order_free 2 3 1 ranges [] [] _ _ farthest.0 farthest.1

earlier : Possible 2 3 1 ranges (so_far 1) farthest.0
earlier = less_possible 2 3 1 ranges (so_far 1) _ farthest.0 farthest.1

-- 14 is no larger than 20, which holds too
no_sharper : NoLarger (at_most (pos 14)) (at_most (pos 20))
no_sharper = sharpest 2 3 1 ranges (so_far 3) 1 2 (at_most (pos 14)) (at_most (pos 20)) worked_example.1.2.1
    (λ x p. let h = worked_example.1.2.1.holds x p in omega (arith, ints))

nothing_more : NonePossible 2 3 1 ranges (step rates ∷ so_far 10)
nothing_more = stays_so 2 3 1 ranges (so_far 10) (step rates) worked_example.5
