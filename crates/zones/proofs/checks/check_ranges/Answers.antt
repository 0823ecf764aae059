use Rattle.std.proofs.Common.{◌≡◌, rules, tests, ◌∙◌}
use Rattle.std.proofs.lemmas.Iterator.{YieldsList-from_slice}
use Rattle.refusal.specs.Order.{first_bad}
use Rattle.zones.specs.Checks.{range_ok}
use Rattle.refusal.proofs.Firsts.{first_found}
use Rattle.zones.proofs.checks.check_ranges.Goals as goal
use Rattle.zones.proofs.checks.check_ranges.Goals.{After-position}

first_is : (c : After-position) → first_bad range_ok 0 c.args.ranges.now ≡ c.position.result
first_is c = first_found range_ok _ _ _ c.position.ensures.ran (YieldsList-from_slice c.args.ranges.now cc)
    (λ x b q k. search (rules, tests))

pub returns-in-Some : goal.returns-in-Some
returns-in-Some c = rw (c.in_ok-check_length.ensures, first_is (goal.at.returns-in-Some c).After-position ∙ c.in-Some.is)

pub returns : goal.returns
returns c = rw (c.in_ok-check_length.ensures, first_is (goal.at.returns c).After-position ∙ c.in_default.is)
