use Rattle.std.proofs.Common.{get_or, Ok}
use Rattle.table.specs.Parts.{Changes}
use Rattle.table.proofs.Parting.{Going}
use Rattle.table.proofs.lent.change_each.Given as goal

abbrev pub invariant-loop-place : goal.invariant-loop-place
invariant-loop-place g l =
    Going l.plant.basins (λ k xs ys. Changes (goal.F-post g l.change) (get_or l.sets k (record { bits = 0 })) xs (Ok tt) ys)
    l.place l.initial.table l.table
