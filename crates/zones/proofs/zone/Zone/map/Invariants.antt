use Rattle.zones.proofs.Mapping.{RowTo, RowsTo}
use Rattle.zones.proofs.zone.Zone.map.Given as goal

abbrev pub invariant-loop-j : goal.invariant-loop-j
invariant-loop-j g l = RowTo (goal.F-post g l.f l.i) l.j l.initial.row l.row

abbrev pub invariant-loop-i : goal.invariant-loop-i
invariant-loop-i g l = RowsTo l.fn.self.basins (goal.F-post g l.f) l.i l.initial.numbers l.numbers
