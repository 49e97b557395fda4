use Rattle.std.proofs.Common.{◌≡◌, ℕ, Bool, not, ◌&&◌, eqb, ltb, length, sym, ap, ◌∙◌, arith, rules, tests}
use Rattle.std.proofs.lemmas.Bool.Decides.{nat_tests}
use Rattle.std.proofs.lemmas.Iterator.Adapters.{YieldsList-from_bytes}
use Rattle.std.proofs.lemmas.Iterator.Search.{all_from_yields_List}
use Rattle.std.specs.Char.{digit_value}
use Rattle.script.specs.Numbers.{digits_only}
use Rattle.script.proofs.numbers.is_numeral.Goals as goal

pub returns-then-all : goal.returns-then-all
returns-then-all c =
    let cs = c.args.text.now in
    let all : c.all.result ≡ digits_only c.args.radix cs =
    all_from_yields_List (λ (d : ℕ). ltb (digit_value d) c.args.radix) _ _ c.all.result c.all.ensures.ran (YieldsList-from_bytes cs c.bytes.ensures.rest) (λ x b q k. search (rules, tests)) in
    let some : not (eqb (length cs) 0) ≡ ltb 0 (length cs) = grind (arith, nat_tests) in
    ap not c.is_empty.ensures ∙ some ∙ ap (λ (b : Bool). b && ltb 0 (length cs)) (sym c.if-all.true ∙ all)
