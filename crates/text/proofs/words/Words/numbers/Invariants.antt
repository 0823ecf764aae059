use Rattle.std.proofs.Common.{◌≡◌, length, take, drop}
use Rattle.text.proofs.Steps.{ReadUpTo}
use Rattle.text.proofs.words.Words.numbers.Given as goal

abbrev pub invariant-loop-i : goal.invariant-loop-i
invariant-loop-i g l =
    (length l.numbers ≡ length l.fn.fields) × ReadUpTo l.fn.self l.self (take l.i l.numbers) l.fn.fields (drop l.i l.field-items)
