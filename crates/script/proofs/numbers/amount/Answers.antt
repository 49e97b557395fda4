use Rattle.std.proofs.Common.{◌≡◌, ℕ, List, ◌∷◌, sym, ap, ◌∙◌, from_bits, rules}
use Rattle.std.specs.Float.{binary32}
use Rattle.std.specs.Option.{option_map}
use Rattle.script.specs.Numbers.{bit_pattern}
use Rattle.script.proofs.Numerals.{amount_bits, amount_decimal, read_decimal}
use Rattle.script.proofs.numbers.amount.Goals as goal

pub returns-in-Some : goal.returns-in-Some
returns-in-Some c =
    let ds = c.in-Some.digits.now in
    let bits : c.map.result ≡ option_map (from_bits binary32) (bit_pattern ds) = search rules in
    let parts = c.in-Some.ensures.cases in
    let begins : c.args.text.now ≡ 48 ∷ 120 ∷ ds = parts.1.1 ∙ ap (λ (l : List ℕ). 48 ∷ 120 ∷ l) (sym parts.2) in
    bits ∙ sym (amount_bits c.args.text.now ds begins)

pub returns-in-None : goal.returns-in-None
returns-in-None c =
    c.ok.ensures.value ∙ read_decimal c.parse.result c.args.text.now c.parse.ensures.value.1 ∙ sym (amount_decimal c.args.text.now c.in-None.ensures.cases)
