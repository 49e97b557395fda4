use Rattle.std.proofs.Common.{Some, sym, ap, ◌∙◌}
use Rattle.script.proofs.Numerals.{decimal_read}
use Rattle.script.proofs.numbers.decimal.Goals as goal

pub returns-then-is_numeral : goal.returns-then-is_numeral
returns-then-is_numeral c =
    ap Some c.unwrap_or.ensures
    ∙ decimal_read c.from_str_radix.result c.args.text.now c.from_str_radix.ensures.value (sym c.is_numeral.ensures ∙ c.if-is_numeral.true)
