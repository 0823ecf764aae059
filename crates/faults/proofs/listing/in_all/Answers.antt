use Rattle.std.proofs.Common.{rules, arith}
use Rattle.std.proofs.lemmas.Bool.Decides.{nat_tests}
use Rattle.std.proofs.lemmas.Iterator.{YieldsList-from_slice}
use Rattle.std.proofs.lemmas.Fn.{fold_over, fronts}
use Rattle.faults.specs.Sets.{Common}
use Rattle.faults.proofs.Common.{common_push}
use Rattle.faults.proofs.listing.in_all.Goals as goal

pub returns : goal.returns
returns c =
    fold_over fronts (λ y. y.now) _ (Common c.args.gauges) _ (λ ys a x b f' j k. (common_push c.args.gauges ys a x.now b j (search rules), search rules)) c.iter.result c.args.sets.now _ _
    (YieldsList-from_slice c.args.sets.now cc).runs (λ a. let all = c.all.ensures a in grind (arith, nat_tests)) c.fold.ensures.ran
