use Rattle.std.proofs.Common.{◌^◌, leb, refl, rules, tests}
use lib.Count.{ones}
use Rattle.std.proofs.lemmas.Iterator.{YieldsList-from_range}
use Rattle.std.proofs.lemmas.Iterator.Consumers.{YieldsList-at, YieldsList-from_filter, count_from_yields_List}
use Rattle.faults.proofs.Bits.{subsets}
use Rattle.faults.proofs.Tally.{number_counted}
use Rattle.faults.proofs.listing.count_sets.Goals as goal

pub returns : goal.returns
returns c =
    number_counted c.args.wrong c.args.gauges c.count.result
    (count_from_yields_List c.filter.result c.count.result c.count.ensures.ran
    (YieldsList-from_filter _ (λ m. leb (ones m) c.args.wrong)
    (YieldsList-at c.filter.ensures.source (YieldsList-from_range 0 _ (2 ^ c.args.gauges) refl (subsets c.args.gauges c.requires)))
    c.filter.ensures.closure (λ x b q k. search (rules, tests))))
