use Rattle.std.proofs.Common.{◌≡◌, leb, rules, tests, ◌∙◌}
use Rattle.std.proofs.lemmas.Iterator.{YieldsList-from_slice}
use Rattle.zones.specs.Lent.{first_above}
use Rattle.refusal.proofs.Firsts.{first_found}
use Rattle.zones.proofs.lent.check_lent.Goals as goal
use Rattle.zones.proofs.lent.check_lent.Goals.{After-position, After-position-2, After-position-3}

rise_is : (c : After-position) → first_above 10000 c.args.rise.now ≡ c.position.result
rise_is c = first_found (λ v. leb v 10000) _ _ _ c.position.ensures.ran (YieldsList-from_slice c.args.rise.now cc)
    (λ x b q k. search (rules, tests))

fall_is : (c : After-position-2) → first_above 10000 c.args.fall.now ≡ c.position-2.result
fall_is c = first_found (λ v. leb v 10000) _ _ _ c.position-2.ensures.ran (YieldsList-from_slice c.args.fall.now cc)
    (λ x b q k. search (rules, tests))

number_is : (c : After-position-3) → first_above 2000002 c.args.zone.now ≡ c.position-3.result
number_is c = first_found (λ v. leb v 2000002) _ _ _ c.position-3.ensures.ran (YieldsList-from_slice c.args.zone.now cc)
    (λ x b q k. search (rules, tests))

pub returns-in-Some : goal.returns-in-Some
returns-in-Some c =
    rw (
      c.in_ok-check_size.ensures.found,
      c.in_ok-check_length.ensures,
      c.in_ok-check_length-2.ensures,
      rise_is (goal.at.returns-in-Some c).After-position ∙ c.in-Some.is,
    )

pub returns-in-Some-position : goal.returns-in-Some-position
returns-in-Some-position c = let a = goal.at.returns-in-Some-position c in
    rw (
      c.in_ok-check_size.ensures.found,
      c.in_ok-check_length.ensures,
      c.in_ok-check_length-2.ensures,
      rise_is a.After-position ∙ c.in_default.is,
      fall_is a.After-position-2 ∙ c.in-Some-position.is,
    )

pub returns-in-Some-position-2 : goal.returns-in-Some-position-2
returns-in-Some-position-2 c = let a = goal.at.returns-in-Some-position-2 c in
    rw (
      c.in_ok-check_size.ensures.found,
      c.in_ok-check_length.ensures,
      c.in_ok-check_length-2.ensures,
      rise_is a.After-position ∙ c.in_default.is,
      fall_is a.After-position-2 ∙ c.in_default-position.is,
      number_is a.After-position-3 ∙ c.in-Some-position-2.is,
    )

pub returns : goal.returns
returns c = let a = goal.at.returns c in
    rw (
      c.in_ok-check_size.ensures.found,
      c.in_ok-check_length.ensures,
      c.in_ok-check_length-2.ensures,
      rise_is a.After-position ∙ c.in_default.is,
      fall_is a.After-position-2 ∙ c.in_default-position.is,
      number_is a.After-position-3 ∙ c.in_default-position-2.is,
    )
