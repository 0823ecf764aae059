use Rattle.std.proofs.Common.{rules, tests}
use Rattle.std.proofs.lemmas.Iterator.{YieldsList-from_slice}
use Rattle.std.proofs.lemmas.Iterator.Consumers.{YieldsList-at, YieldsList-from_filter, nth_from_yields_List}
use Rattle.plant.proofs.Rows.{is_step, step_there}
use Rattle.plant.proofs.events.has_untaken_step.Goals as goal

pub returns : goal.returns
returns c =
    let there = step_there (λ x. x.now) c.nth.result 1000000 c.args.events.now
    (nth_from_yields_List c.nth.result c.nth.new.self 1000000 c.nth.ensures.ran
    (YieldsList-from_filter _ is_step (YieldsList-at c.filter.ensures.source (YieldsList-from_slice c.args.events.now cc))
    c.filter.ensures.closure (λ x b q k. search (rules, tests)))) in
    search (rules, there)
