use Rattle.std.proofs.Common.{◌≡◌, IsUtf8, length, not, refl, ap, subst, arith, rules, tests}
use Rattle.std.proofs.lemmas.Iterator.{YieldsList-from_slice}
use Rattle.std.proofs.lemmas.Iterator.Search.{position_from_yields_List}
use Rattle.std.specs.List.{position}
use Rattle.text.specs.Words.{blank, letter}
use Rattle.text.proofs.Splits.{Front, fronted, gap_cut, word_cut, no_word, one_word}
use Rattle.text.proofs.words.WordsIterator.next.Goals as goal
use Rattle.text.proofs.words.WordsIterator.next.Goals.{After-unwrap_or-gap, After-unwrap_or-end}

-- what is found among the bytes holds of the text
gap : (c : After-unwrap_or-gap) → Front blank c.args.self.now.rest.now c.unwrap_or-gap.result
gap c = fronted blank c.args.self.now.rest.now c.position.result c.unwrap_or-gap.result
    (subst (λ bs. c.position.result ≡ position (λ x. not (blank x)) bs) c.as_bytes.ensures.value
    (position_from_yields_List (λ x. not (blank x)) _ _ c.position.result c.position.ensures.ran
    (YieldsList-from_slice c.as_bytes.result.now cc) (λ x b q k. search (rules, tests)))) c.unwrap_or-gap.ensures

word : (c : After-unwrap_or-end) → Front letter c.split_at.result.1.now c.unwrap_or-end.result
word c = fronted letter c.split_at.result.1.now c.position-2.result c.unwrap_or-end.result
    (subst (λ bs. c.position-2.result ≡ position (λ x. not (letter x)) bs) c.as_bytes-2.ensures.value
    (position_from_yields_List (λ x. not (letter x)) _ _ c.position-2.result c.position-2.ensures.ran
    (YieldsList-from_slice c.as_bytes-2.result.now cc) (λ x b q k. search (rules, tests)))) c.unwrap_or-end.ensures

pub split_at-requires : goal.split_at-requires
split_at-requires c = gap_cut _ _ (gap (goal.at.split_at-requires c).After-unwrap_or-gap) (subst IsUtf8 c.as_bytes.ensures.value c.as_bytes.ensures.utf8)

pub split_at-requires-2 : goal.split_at-requires-2
split_at-requires-2 c = word_cut _ _ (word (goal.at.split_at-requires-2 c).After-unwrap_or-end)

pub returns-then-end-eq0-clause-steps : goal.returns-then-end-eq0-clause-steps
returns-then-end-eq0-clause-steps c =
    no_word _ _ _ _ (gap (goal.at.returns-then-end-eq0-clause-steps c).After-unwrap_or-gap) c.split_at.ensures.back
    (word (goal.at.returns-then-end-eq0-clause-steps c).After-unwrap_or-end) c.if-end-eq0.true

pub returns-clause-steps : goal.returns-clause-steps
returns-clause-steps c = (
  one_word _ _ _ _ (gap (goal.at.returns-clause-steps c).After-unwrap_or-gap) c.split_at.ensures.back
      (word (goal.at.returns-clause-steps c).After-unwrap_or-end) _ _ c.if-end-eq0.false c.split_at-2.ensures.front c.split_at-2.ensures.back,
  refl,
)

pub returns-clause-goes : goal.returns-clause-goes
returns-clause-goes c =
    let e = one_word _ _ _ _ (gap (goal.at.returns-clause-goes c).After-unwrap_or-gap) c.split_at.ensures.back
    (word (goal.at.returns-clause-goes c).After-unwrap_or-end) _ _ c.if-end-eq0.false c.split_at-2.ensures.front c.split_at-2.ensures.back in
    record { on = λ _. (tt, tt, omega (arith, ap length e)); keeps = tt; rests = λ _. tt }
