use Rattle.console.proofs.lines.take_lines.Given as goal

abbrev pub invariant-loop-turn : goal.invariant-loop-turn
invariant-loop-turn g l = g.T.TakeLines.after 0 l.initial.taker → g.T.TakeLines.after l._turn l.taker
