-- What is known of a plant, since no check refuses it. Assumes nothing.
use Rattle.std.proofs.Common.{◌≡◌, ℕ, ◌<◌, ◌≤◌, true, false, ◌≢◌, List, length, is_some, Some, None, Option, refl, arith}
use Rattle.std.proofs.lemmas.Bool.Decides.{nat_tests}
use Rattle.refusal.specs.Order.{first_bad}
use Rattle.refusal.proofs.Firsts.{each}
use Rattle.refusal.proofs.Orders.{both_none, mapped_none}
use Rattle.zones.specs.declared.kinds.Range.{Range}
use Rattle.zones.specs.declared.kinds.Rate.{Rate}
use Rattle.zones.specs.Checks.{basins_refused, ranges_refused, rates_refused}
use Rattle.faults.specs.Limits.{refusal_of}
use Rattle.plant.specs.declared.kinds.Gauge.{Gauge}
use Rattle.plant.specs.Checks.{lengths_refused, placed, placement_refused, plant_refused}
use Rattle.plant.specs.Resolve.{gauge_at}

pub not_some : {A : Type 0} (o : Option A) → is_some o ≡ false → o ≡ None
not_some None e = refl
not_some (Some x) e = grind arith

module _ (n f : ℕ) (ranges : List Range) (rates : List Rate) (gauges : List Gauge)
    (limits : is_some (plant_refused n f ranges rates gauges) ≡ false) where
  taken : (basins_refused n ≡ None) × (refusal_of (length gauges) f ≡ None)
      × (lengths_refused n (length rates) (length ranges) ≡ None) × (rates_refused n rates ≡ None)
      × (ranges_refused n ranges ≡ None) × (placement_refused n gauges ≡ None)
  taken =
      let a = both_none (basins_refused n) _ (not_some (plant_refused n f ranges rates gauges) limits) in
      let b = both_none (refusal_of (length gauges) f) _ a.1 in
      let c = both_none (lengths_refused n (length rates) (length ranges)) _ b.1 in
      let d = both_none (rates_refused n rates) _ c.1 in
      let e = both_none (ranges_refused n ranges) _ d.1 in
      (a.0, b.0, c.0, d.0, e.0, e.1)

  pub basins_within : (1 ≤ n) × (n ≤ 8)
  basins_within = let e = taken.0 in (grind (arith, nat_tests), grind (arith, nat_tests))

  pub count_taken : refusal_of (length gauges) f ≡ None
  count_taken = taken.1

  pub gauge_placed : (a : ℕ) → a < length gauges →
      ((gauge_at gauges a).first ≤ n) × ((gauge_at gauges a).second ≤ n)
      × (1 ≤ (gauge_at gauges a).first) × ((gauge_at gauges a).first ≢ (gauge_at gauges a).second)
  gauge_placed a h =
      let ok : placed n (gauge_at gauges a) ≡ true =
      each (placed n) 0 gauges a _ (mapped_none _ (first_bad (placed n) 0 gauges) taken.5) h in
      (grind (arith, nat_tests), grind (arith, nat_tests), grind (arith, nat_tests), λ e. grind (arith, nat_tests))

  pub gauges_few : (1 ≤ length gauges) × (length gauges ≤ 12) × (f ≤ 2) × (f < length gauges)
  gauges_few = let e = count_taken in (grind (arith, nat_tests), grind (arith, nat_tests), grind (arith, nat_tests), grind (arith, nat_tests))
