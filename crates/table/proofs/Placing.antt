-- A reading that a plant takes is one that its zones take. Assumes nothing.
use Rattle.std.proofs.Common.{◌≡◌, ℕ, ◌<◌, ◌≤◌, ◌||◌, eqb, ltb, ◌≢◌, List, None, arith}
use Rattle.std.proofs.lemmas.Bool.Decides.{nat_tests}
use Rattle.refusal.specs.Order.{when}
use Rattle.refusal.specs.declared.kinds.Refusal.TheVariants as refuses
use Rattle.zones.specs.Checks as zone
use Rattle.plant.specs.declared.kinds.Gauge.{Gauge}
use Rattle.plant.specs.declared.kinds.GaugeReading.{GaugeReading}
use Rattle.plant.specs.Events.{reading_refused, gauge_refused, ends_refused}
use Rattle.plant.specs.Resolve.{gauge_at, placed_reading}
use Rattle.refusal.proofs.Orders.{both_none, neither}

pub gauge_there : (g : ℕ) (r : GaugeReading) → reading_refused g r ≡ None → r.gauge < g
gauge_there g r e = let a = (both_none (gauge_refused g r) (ends_refused r) e).0 in grind (arith, nat_tests)

-- it is of two different numbers of the zone, and its ends are in order
pub placed_taken : (n g : ℕ) (gs : List Gauge) (r : GaugeReading) → reading_refused g r ≡ None →
    (gauge_at gs r.gauge).first ≤ n → (gauge_at gs r.gauge).second ≤ n →
    (gauge_at gs r.gauge).first ≢ (gauge_at gs r.gauge).second → zone.reading_refused n (placed_reading gs r) ≡ None
placed_taken n g gs r e a b ne =
    let ends = (both_none (gauge_refused g r) (ends_refused r) e).1 in
    neither _ _ ends (neither _ _ (within _ _ n a b) (apart _ _ ne))
  where
    within : (i j n : ℕ) → i ≤ n → j ≤ n → when (ltb n i || ltb n j) refuses.NoBasin ≡ None
    within i j n a b = grind (arith, nat_tests)

    apart : (i j : ℕ) → i ≢ j → when (eqb i j) refuses.SameBasin ≡ None
    apart i j ne = grind (arith, nat_tests)
