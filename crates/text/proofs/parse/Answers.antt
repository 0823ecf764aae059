use Rattle.std.proofs.Common.{refl, inl, lit<, rules}
use Rattle.std.proofs.lemmas.Str.Pattern.{contains_char}
use Rattle.text.specs.Lines.{HasNul}
use Rattle.text.proofs.Readings.{parses}
use Rattle.text.proofs.Steps.{nothing, read}
use Rattle.text.proofs.parse.Goals as goal
use Rattle.text.proofs.parse.Goals.{Else-contains}

plain : (c : Else-contains) → HasNul c.args.line.now → ⊥
plain c h =
    let found = (contains_char 0 c.args.line.now _ c.contains.ensures.cases (lit< tt)).1 h.0 h.1 h.2 in
    cc (found, c.if-contains.false)

pub returns-then-contains : goal.returns-then-contains
returns-then-contains c =
    parses _ _ _
    (inl ((contains_char 0 c.args.line.now _ c.contains.ensures.cases (lit< tt)).0 c.if-contains.true, refl))

pub returns-then-is_none : goal.returns-then-is_none
returns-then-is_none c =
    parses _ _ _
    (nothing c.args.format c.args.line.now c.of-words.result c.next.new.self (plain (goal.at.returns-then-is_none c).Else-contains)
    c.of-words.ensures c.next.result c.next.ensures.steps (search rules))

pub returns : goal.returns
returns c =
    parses _ _ _
    (read c.args.format c.args.line.now c.of-words.result c.next.new.self (plain (goal.at.returns c).Else-contains)
    c.of-words.ensures c.next.result c.entry.result c.map.result c.next.ensures.steps (search rules) c.entry.ensures
    c.map.ensures.cases (λ e o made. search rules))
