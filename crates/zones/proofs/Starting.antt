-- The first zone in lent numbers. Assumes nothing.
use Rattle.std.proofs.Common.{◌≡◌, ℕ, zero, suc, ◌^◌, ◌≤◌, Bool, true, false, cond, eqb, List, ℤ, pos, ◌-ℤ◌, neg_ℤ, ◌≤ℤ◌, None, refl, ap, ◌∙◌, arith}
use Rattle.std.proofs.lemmas.Int.{ints}
use Rattle.std.proofs.lemmas.Bool.Decides.{nat_tests}
use Rattle.refusal.proofs.Firsts.{each}
use Rattle.theory.specs.Bound.{at_most, sum, zero_bound}
use Rattle.theory.specs.Level.{Ordered}
use Rattle.theory.specs.Zone.{first_zone}
use Rattle.theory.proofs.Meet.{first}
use Rattle.theory.proofs.Track.{Same, same_levels, same_canonical}
use Rattle.bounds.specs.Meaning.{bound_of}
use Rattle.zones.specs.declared.kinds.Range.{Range}
use Rattle.zones.specs.Checks.{range_ok, range_refused}
use Rattle.zones.specs.Change.{least_of, most_of, first_number, ranges_of, Starts}
use Rattle.zones.specs.Numbers.{cell, zone_of}
use Rattle.zones.proofs.Checked.{ranges_ok}
use Rattle.zones.proofs.Writing.{bound_is}

-- each range is in order
pub range_within : (n : ℕ) (rs : List Range) → range_refused n rs ≡ None → (i : ℕ) →
    i ≤ n → (least_of rs i ≤ most_of rs i) × (most_of rs i ≤ 100000)
range_within n rs e zero hi = (omega arith, omega arith)
range_within n rs e (suc i) hi =
    let ok = ranges_ok n rs e in let l = ok.0 in
    let t = each range_ok 0 rs i (record { least = 0; most = 0 }) ok.1 (omega arith) in
    (grind (arith, nat_tests), grind (arith, nat_tests))

module _ (n : ℕ) (rs : List Range) (ys : List ℤ) (ok : range_refused n rs ≡ None) (filled : (i j : ℕ) → i ≤ n → j ≤ n →
    cell n ys i j ≡ first_number rs i j) where
  ordered : Ordered n (ranges_of rs)
  ordered i hi = let r = range_within n rs ok i hi in (omega arith, omega (arith, ints))

  number_is : (i j : ℕ) → i ≤ n → j ≤ n → bound_of (first_number rs i j) ≡ first_zone (ranges_of rs) i j
  number_is i j hi hj = bound_is (first_number rs i j) (small i j hi hj) ∙ same (eqb i j)
    where
      small : (a b : ℕ) → a ≤ n → b ≤ n → first_number rs a b ≤ℤ pos (2 ^ 62)
      small a b ha hb = let r = range_within n rs ok a ha in grind (arith, ints, nat_tests)

      same : (t : Bool) → at_most (cond t (pos 0) (pos (most_of rs i) -ℤ pos (least_of rs j))) ≡ cond t zero_bound
          (sum (at_most (pos (most_of rs i))) (at_most (neg_ℤ (pos (least_of rs j)))))
      same true = refl
      same false = refl

  as_first : Same n (first_zone (ranges_of rs)) (zone_of n ys)
  as_first i j hi hj = ap bound_of (filled i j hi hj) ∙ number_is i j hi hj

  pub starts : Starts n rs ys
  starts =
      let f = first n (ranges_of rs) ordered in
      let l = same_levels n (first_zone (ranges_of rs)) (zone_of n ys) as_first in
      record {
        levels = λ x. (λ p. (l x).0 ((f.1 x).0 p), λ p. (f.1 x).1 ((l x).1 p));
        canonical = same_canonical n (first_zone (ranges_of rs)) (zone_of n ys) as_first f.0;
        roof = λ i hi. let r = range_within n rs ok i hi in rw (as_first i 0 hi (omega arith)) (grind (arith, ints, nat_tests));
      }
