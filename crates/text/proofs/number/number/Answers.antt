use Rattle.std.proofs.Common.{sym, rules}
use Rattle.text.proofs.Values.{number_read}
use Rattle.text.proofs.number.number.Goals as goal

pub returns-in_err-value : goal.returns-in_err-value
returns-in_err-value c =
    let read = number_read c.args.word.now c.args.field c.parse.result c.map_err.result c.parse.ensures.value.0
    (sym c.if-not-is_numeral.ensures) c.map_err.ensures.cases (λ e x h. search rules) in
    search rules

pub returns : goal.returns
returns c =
    let read = number_read c.args.word.now c.args.field c.parse.result c.map_err.result c.parse.ensures.value.0
    (sym c.if-not-is_numeral.ensures) c.map_err.ensures.cases (λ e x h. search rules) in
    search rules
