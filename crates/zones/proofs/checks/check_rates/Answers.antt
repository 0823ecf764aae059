use Rattle.std.proofs.Common.{◌≡◌, rules, tests, ◌∙◌}
use Rattle.std.proofs.lemmas.Iterator.{YieldsList-from_slice}
use Rattle.refusal.specs.Order.{first_bad}
use Rattle.zones.specs.Checks.{rise_ok, fall_ok}
use Rattle.refusal.proofs.Firsts.{first_found}
use Rattle.zones.proofs.checks.check_rates.Goals as goal
use Rattle.zones.proofs.checks.check_rates.Goals.{After-position, After-position-2}

rise_is : (c : After-position) → first_bad rise_ok 0 c.args.rates.now ≡ c.position.result
rise_is c = first_found rise_ok _ _ _ c.position.ensures.ran (YieldsList-from_slice c.args.rates.now cc)
    (λ x b q k. search (rules, tests))

fall_is : (c : After-position-2) → first_bad fall_ok 0 c.args.rates.now ≡ c.position-2.result
fall_is c = first_found fall_ok _ _ _ c.position-2.ensures.ran (YieldsList-from_slice c.args.rates.now cc)
    (λ x b q k. search (rules, tests))

pub returns-in-Some : goal.returns-in-Some
returns-in-Some c = rw (c.in_ok-check_length.ensures, rise_is (goal.at.returns-in-Some c).After-position ∙ c.in-Some.is)

pub returns-in-Some-position : goal.returns-in-Some-position
returns-in-Some-position c = let a = goal.at.returns-in-Some-position c in
    rw (c.in_ok-check_length.ensures, rise_is a.After-position ∙ c.in_default.is, fall_is a.After-position-2 ∙ c.in-Some-position.is)

pub returns : goal.returns
returns c = let a = goal.at.returns c in
    rw (c.in_ok-check_length.ensures, rise_is a.After-position ∙ c.in_default.is, fall_is a.After-position-2 ∙ c.in_default-position.is)
