use Rattle.std.proofs.Common.{ℕ, ◌/◌, min, pos, ap, ◌∙◌, arith}
use lib.Ieee.{Float, binary64, mul, of_int, to_unsigned}
use Rattle.values.proofs.Exact.{rounded_down_lem}
use Rattle.values.proofs.steps.rounded_down.Goals as goal

pub returns : goal.returns
returns c =
    let a = c.args.numerator in
    let b = c.args.denominator in
    c.min.ensures
    ∙ ap (λ (n : ℕ). min (n / b) 4294967295) (c.saturating_f64_to_u64-whole.ensures ∙ ap (λ (x : Float). to_unsigned 64 (mul binary64 x (of_int binary64 (pos a)))) c.f32_to_f64_with_nan.ensures)
    ∙ rounded_down_lem b (omega arith) (omega arith) a (omega arith) (omega arith) c.args.value (grind arith)
