use Rattle.std.proofs.Common.{sym, rules, tests}
use Rattle.std.proofs.lemmas.Iterator.{YieldsList-from_slice}
use Rattle.refusal.proofs.Firsts.{first_found}
use Rattle.plant.specs.Checks.{placed}
use Rattle.plant.proofs.making.bad_gauge.Goals as goal

pub returns-clause-first : goal.returns-clause-first
returns-clause-first c =
    sym (first_found (placed c.args.basins) _ _ c.position.result c.position.ensures.ran
    (YieldsList-from_slice c.args.gauges.now cc) (λ x b q k. search (rules, tests)))
