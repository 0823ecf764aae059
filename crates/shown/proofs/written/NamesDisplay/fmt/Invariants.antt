use Rattle.std.proofs.Common.{◌≡◌, ℕ, ◌<◌, List, ◌∷◌, ◌++◌}
use Rattle.std.specs.Fmt.{HasWritten, IsPlainFormatter, decimal}
use Rattle.std.specs.List.{flat_map}
use Rattle.faults.specs.Sets.{gauge_set}
use Rattle.shown.specs.Written.{blank_number}
use Rattle.shown.proofs.Writing.{below}
use Rattle.shown.proofs.written.NamesDisplay.fmt.Given as goal

abbrev pub invariant-loop-gauge : goal.invariant-loop-gauge
invariant-loop-gauge g l =
    (l.first < 16) × (rest : List ℕ) × (below (gauge_set l.self.gauges) l.gauge-counter ≡ l.first ∷ rest)
    × (IsPlainFormatter l.fn.f → HasWritten g.W.Write.write_str_gives l.fn.f (decimal l.first ++ flat_map blank_number rest) l.f)
