use Rattle.std.proofs.Common.{◌≡◌, ℕ, pos, sym, ap, ◌∙◌}
use lib.Ieee.{binary32, of_bits, of_int, div}
use Rattle.values.specs.Model.{nominal_current}
use Rattle.values.proofs.Nominal.{current_quotient, current_nearest}
use Rattle.values.proofs.model.Model.nominal_current.Goals as goal

pub returns : goal.returns
returns c =
    let m = c.args.self in
    let e : div binary32 (of_int binary32 (pos c.milliamperes.result)) (of_bits binary32 0x447A_0000) ≡ nominal_current m =
    ap (λ (n : ℕ). div binary32 (of_int binary32 (pos n)) (of_bits binary32 0x447A_0000)) c.milliamperes.ensures ∙ current_quotient m
    in
    record { value = e; nearest = e ∙ sym (current_nearest m) }
