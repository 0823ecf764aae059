use Rattle.std.proofs.Common.{◌<◌, length, sym, ap, ◌∙◌, refl, arith, lit<, false-eqb}
use Rattle.std.proofs.lemmas.Str.Pattern.{strip_prefix_char}
use Rattle.text.specs.Numbers.{digits}
use Rattle.text.proofs.Values.{numeral_by, digits_some, digits_all}
use Rattle.text.proofs.number.is_numeral.Goals as goal

pub returns-then-not-is_empty : goal.returns-then-not-is_empty
returns-then-not-is_empty c =
    let some : 0 < length c.unwrap_or-digits.result.now = omega (arith, false-eqb _ 0 c.if-not-is_empty.ensures) in
    c.all_digits.ensures ∙ digits_all c.unwrap_or-digits.result.now ∙ sym (digits_some _ some)
    ∙ ap (λ x. digits x.now) c.unwrap_or-digits.ensures
    ∙ sym (numeral_by c.args.word.now c.strip_prefix.result c.args.word
    (strip_prefix_char 45 c.args.word.now _ c.strip_prefix.ensures.cases (lit< tt)) refl)
