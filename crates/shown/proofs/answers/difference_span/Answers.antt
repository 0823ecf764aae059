use Rattle.std.proofs.Common.{sym, subst}
use Rattle.refusal.proofs.Orders.{both_none}
use Rattle.theory.specs.Level.{difference}
use Rattle.shown.specs.declared.kinds.Span.{Span}
use Rattle.shown.specs.Meaning.{Exact}
use Rattle.shown.specs.Says.{basin_refused}
use Rattle.shown.proofs.Ending.{possible, span_exact, basin_there}
use Rattle.shown.proofs.answers.difference_span.Goals as goal

pub returns : goal.returns
returns c =
    let o = c.args.observer.now in
    let n = o.plant.basins in
    let i = c.args.first in
    let j = c.args.second in
    let taken = c.in_ok-check_pair.ensures in
    let first = both_none (basin_refused n i) _ taken in
    let second = both_none (basin_refused n j) _ first.1 in (
      taken,
      λ es t. subst (λ (s : Span). Exact s (λ x. difference x i j) (possible o es t)) (sym c.span.ensures)
          (span_exact o es t i j (basin_there n i first.0) (basin_there n j second.0)),
    )
