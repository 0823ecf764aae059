use Rattle.std.proofs.Common.{sym, subst}
use Rattle.theory.specs.Level.{level}
use Rattle.shown.specs.declared.kinds.Span.{Span}
use Rattle.shown.specs.Meaning.{Exact}
use Rattle.shown.proofs.Ending.{possible, level_exact, basin_there}
use Rattle.shown.proofs.answers.basin_span.Goals as goal

pub returns : goal.returns
returns c =
    let o = c.args.observer.now in
    let b = c.args.basin in
    let taken = c.in_ok-check_basin.ensures in (
      taken,
      λ es t. subst (λ (s : Span). Exact s (level b) (possible o es t)) (sym c.span.ensures)
          (level_exact o es t b (basin_there o.plant.basins b taken)),
    )
