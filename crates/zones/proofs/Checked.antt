-- What is known of input that no check refuses. Assumes nothing.
use Rattle.std.proofs.Common.{◌≡◌, ℕ, ◌+◌, ◌*◌, ◌≤◌, List, length, pos, neg_ℤ, ◌≤ℤ◌, None, arith}
use Rattle.std.proofs.lemmas.Int.{ints}
use Rattle.std.proofs.lemmas.Bool.Decides.{nat_tests}
use Rattle.std.specs.Option.{option_map}
use Rattle.refusal.specs.Order.{first_bad}
use Rattle.refusal.specs.declared.kinds.Refusal.TheVariants as refuses
use Rattle.refusal.proofs.Orders.{both_none, mapped_none}
use Rattle.zones.specs.declared.kinds.Reading.{Reading}
use Rattle.zones.specs.declared.kinds.Range.{Range}
use Rattle.zones.specs.declared.kinds.Rate.{Rate}
use Rattle.zones.specs.Checks.{length_refused, size_refused, reading_refused, range_ok, range_refused, rise_ok, fall_ok, rate_refused}

pub size_ok : (n len : ℕ) → size_refused n len ≡ None → (1 ≤ n) × (n ≤ 8) × (len ≡ (n + 1) * (n + 1))
size_ok n len e = grind (arith, nat_tests)

pub length_ok : (needed len : ℕ) → length_refused needed len ≡ None → len ≡ needed
length_ok needed len e = grind (arith, nat_tests)

pub reading_ok : (n : ℕ) (r : Reading) → reading_refused n r ≡ None → (r.first ≤ n) × (r.second ≤ n)
    × (r.low ≤ℤ r.high) × (neg_ℤ (pos 1000000) ≤ℤ r.low) × (r.high ≤ℤ pos 1000000)
reading_ok n r e = (
  grind (arith, nat_tests),
  grind (arith, nat_tests),
  grind (arith, ints, nat_tests),
  grind
      (arith, ints, nat_tests),
  grind (arith, ints, nat_tests),
)

-- rates for each basin, within their limits
pub rates_ok : (n : ℕ) (rs : List Rate) → rate_refused n rs ≡ None → (length rs ≡ n) × (first_bad rise_ok 0 rs ≡ None)
    × (first_bad fall_ok 0 rs ≡ None)
rates_ok n rs e =
    let a = both_none (length_refused n (length rs)) _ e in
    let b = both_none (option_map (λ i. refuses.Rate (i + 1)) (first_bad rise_ok 0 rs)) _ a.1 in
    (length_ok n (length rs) a.0, mapped_none _ (first_bad rise_ok 0 rs) b.0, mapped_none _ (first_bad fall_ok 0 rs) b.1)

-- ranges for each basin, in order
pub ranges_ok : (n : ℕ) (rs : List Range) → range_refused n rs ≡ None → (length rs ≡ n) × (first_bad range_ok 0 rs ≡ None)
ranges_ok n rs e =
    let a = both_none (length_refused n (length rs)) _ e in
    (length_ok n (length rs) a.0, mapped_none _ (first_bad range_ok 0 rs) a.1)
