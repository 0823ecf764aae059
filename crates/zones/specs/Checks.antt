-- What is refused before a zone is touched. Where several apply, the smallest number decides, and then the smallest place.
-- Assumes nothing: these are definitions.
use Rattle.std.specs.Prelude.{ℕ, ℤ, ◌+◌, ◌*◌, Bool, not, ◌&&◌, ◌||◌, List, length, pos, neg_ℤ, Option, ◌==◌, int_lt, nat_le, nat_lt}
use Rattle.std.specs.Option.{option_map}
use Rattle.refusal.specs.Order.{when, or_else, first_bad}
use Rattle.refusal.specs.declared.kinds.Refusal.{Refusal}
use Rattle.refusal.specs.declared.kinds.Refusal.TheVariants as refuses
use Rattle.zones.specs.declared.kinds.Range.{Range}
use Rattle.zones.specs.declared.kinds.Rate.{Rate}
use Rattle.zones.specs.declared.kinds.Reading.{Reading}

-- So many basins.
abbrev pub basins_refused : ℕ → Option Refusal
basins_refused n = when (nat_lt n 1 || nat_lt 8 n) refuses.Basins

-- Another length than is needed.
abbrev pub length_refused : ℕ → ℕ → Option Refusal
length_refused needed len = when (not (len == needed)) (refuses.Length len)

-- The number of basins, and the numbers of a zone.
abbrev pub size_refused : ℕ → ℕ → Option Refusal
size_refused n len = or_else (basins_refused n) (length_refused ((n + 1) * (n + 1)) len)

-- A range for each basin, which does not end before it begins, or above 100,000.
abbrev pub range_ok : Range → Bool
range_ok r = nat_le r.least r.most && nat_le r.most 100000

abbrev pub range_refused : ℕ → List Range → Option Refusal
range_refused n rs =
    or_else (length_refused n (length rs))
    (option_map (λ i. refuses.Range (i + 1)) (first_bad range_ok 0 rs))

-- Rates for each basin, of which none is above 10,000: the basin is the place, with the number of basins added for a fall.
abbrev pub rise_ok : Rate → Bool
rise_ok r = nat_le r.rise 10000

abbrev pub fall_ok : Rate → Bool
fall_ok r = nat_le r.fall 10000

abbrev pub rate_refused : ℕ → List Rate → Option Refusal
rate_refused n rs =
    or_else (length_refused n (length rs))
    (or_else (option_map (λ i. refuses.Rate (i + 1)) (first_bad rise_ok 0 rs))
    (option_map (λ i. refuses.Rate (n + (i + 1))) (first_bad fall_ok 0 rs)))

-- The ends of a reading: in order, and within a million either way.
abbrev pub ends_refused : ℤ → ℤ → Option Refusal
ends_refused low high =
    or_else (when (int_lt high low) refuses.LowAboveHigh)
    (when (int_lt low (neg_ℤ (pos 1000000)) || int_lt (pos 1000000) high) refuses.PastMillion)

-- A reading whose ends are taken, of two different numbers of the zone.
abbrev pub reading_refused : ℕ → Reading → Option Refusal
reading_refused n r =
    or_else (ends_refused r.low r.high)
    (or_else (when (nat_lt n r.first || nat_lt n r.second) refuses.NoBasin)
    (when (r.first == r.second) refuses.SameBasin))

-- What each function refuses, for a zone of so many numbers.
abbrev pub first_refused : ℕ → ℕ → List Range → Option Refusal
first_refused n len rs = or_else (size_refused n len) (range_refused n rs)

abbrev pub step_refused : ℕ → ℕ → List Rate → Option Refusal
step_refused n len rs = or_else (size_refused n len) (rate_refused n rs)

abbrev pub meet_refused : ℕ → ℕ → Reading → Option Refusal
meet_refused n len r = or_else (size_refused n len) (reading_refused n r)

-- So many basins, and a range or rates for each of them, where no zone is lent with them.
abbrev pub ranges_refused : ℕ → List Range → Option Refusal
ranges_refused n rs = or_else (basins_refused n) (range_refused n rs)

abbrev pub rates_refused : ℕ → List Rate → Option Refusal
rates_refused n rs = or_else (basins_refused n) (rate_refused n rs)
