use Rattle.std.proofs.Common.{sym, ◌∙◌}
use Rattle.script.proofs.Numerals.{bit_pattern_read}
use Rattle.script.proofs.numbers.bit_pattern.Goals as goal

pub returns-then-is_numeral : goal.returns-then-is_numeral
returns-then-is_numeral c =
    c.ok.ensures.value
    ∙ bit_pattern_read c.from_str_radix.result c.args.text.now c.from_str_radix.ensures.value (sym c.is_numeral.ensures ∙ c.if-is_numeral.true) c.if-text-eq8.true
