-- What each loop has done so far: places of this turn, rows of this turn, turns.
use Rattle.zones.specs.Numbers.{zone_of, ZeroDiagonal}
use Rattle.zones.proofs.Cells.{place}
use Rattle.zones.proofs.Turning.{Turned, Begun}
use Rattle.zones.proofs.turns.Zone+i64.turn_all.Given as goal

abbrev pub invariant-loop-j : goal.invariant-loop-j
invariant-loop-j l = let n = l.fn.self.basins in
    Turned n l.k (place n l.i 0) (place n l.i l.j) (zone_of n l.initial.zone) (zone_of n l.zone) × ZeroDiagonal n l.zone

abbrev pub invariant-loop-i : goal.invariant-loop-i
invariant-loop-i l = let n = l.fn.self.basins in
    Turned n l.k 0 (place n l.i 0) (zone_of n l.initial.zone) (zone_of n l.zone) × ZeroDiagonal n l.zone

abbrev pub invariant-loop-k : goal.invariant-loop-k
invariant-loop-k l = Begun l.fn.self.basins l.k l.initial.zone l.zone
