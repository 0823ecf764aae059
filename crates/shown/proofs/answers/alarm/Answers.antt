use Rattle.std.proofs.Common.{◌≡◌, sym, subst, w64, SFits, rules}
use Rattle.std.proofs.lemmas.Int.{to_z-of_z}
use Rattle.theory.specs.Level.{level}
use Rattle.shown.specs.declared.kinds.Span.{Span}
use Rattle.shown.specs.declared.kinds.Alarm.{Alarm}
use Rattle.shown.specs.Meaning.{Exact, Rings}
use Rattle.shown.specs.Computed.{alarm_of}
use Rattle.shown.proofs.Ending.{possible, level_exact, basin_there, rings}
use Rattle.shown.proofs.answers.alarm.Goals as goal

pub returns : goal.returns
returns c =
    let o = c.args.observer.now in
    let b = c.args.basin in
    let limit = c.args.limit in
    let taken = c.in_ok-check_basin.ensures in
    let fits : SFits w64 limit = search rules in
    let is : c.alarm_of.result ≡ alarm_of c.span.result limit = simp to_z-of_z at c.alarm_of.ensures in (
      taken,
      λ es t. subst (λ (r : Alarm). Rings r (level b) (possible o es t) limit) (sym is)
          (rings (possible o es t) (level b) c.span.result limit
          (subst (λ (s : Span). Exact s (level b) (possible o es t)) (sym c.span.ensures)
          (level_exact o es t b (basin_there o.plant.basins b taken)))),
    )
