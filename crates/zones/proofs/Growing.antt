-- What is known of the numbers of a lent zone that is taken. Assumes nothing.
use Rattle.std.proofs.Common.{◌≡◌, ℕ, ◌+◌, ◌*◌, ◌≤◌, leb, List, length, get_or, None, ⊎_elim, arith}
use Rattle.std.proofs.lemmas.List.{get_or_past}
use Rattle.std.proofs.lemmas.Bool.{cases_lt, leb-true}
use Rattle.refusal.proofs.Firsts.{each}
use Rattle.refusal.proofs.Orders.{both_none, mapped_none}
use Rattle.zones.specs.Lent.{refused, first_above, AllWithin}
use Rattle.zones.proofs.Checked.{length_ok, size_ok}

-- ---- what is known of a zone that is taken
within : (most : ℕ) (xs : List ℕ) → first_above most xs ≡ None → AllWithin most xs
within most xs e k = ⊎_elim
    (λ h. leb-true (get_or xs k 0) most (each (λ v. leb v most) 0 xs k 0 e h))
    (λ h. let p = get_or_past xs k 0 h in omega arith)
    (cases_lt k (length xs))

-- as many basins, numbers and rates as there may be, and none above its limit
pub record Taken (n : ℕ) (rise fall xs : List ℕ) : Type 0 where
  pub basins : n ≤ 8
  pub zone_long : length xs ≡ (n + 1) * (n + 1)
  pub rise_long : length rise ≡ n
  pub fall_long : length fall ≡ n
  pub rise_within : AllWithin 10000 rise
  pub fall_within : AllWithin 10000 fall
  pub zone_within : AllWithin 2000002 xs

pub taken : (n : ℕ) (rise fall xs : List ℕ) → refused n rise fall xs ≡ None → Taken n rise fall xs
taken n rise fall xs e =
    let a = both_none _ _ e in let b = both_none _ _ a.1 in let c = both_none _ _ b.1 in
    let d = both_none _ _ c.1 in let f = both_none _ _ d.1 in let size = size_ok n (length xs) a.0 in
    record {
      basins = size.1;
      zone_long = size.2;
      rise_long = length_ok n (length rise) b.0;
      fall_long = length_ok n (length fall) c.0;
      rise_within = within 10000 rise (mapped_none _ _ d.0);
      fall_within = within 10000 fall (mapped_none _ _ f.0);
      zone_within = within 2000002 xs (mapped_none _ _ f.1);
    }
