use Rattle.std.proofs.Common.{◌≡◌, ℕ, pos, ap, ◌∙◌}
use lib.Ieee.{binary32, of_int}
use Rattle.values.specs.Model.{nominal_volts, nearest}
use Rattle.values.proofs.Nominal.{voltage_cast, voltage_nearest}
use Rattle.values.proofs.model.Model.nominal_voltage.Goals as goal

pub returns : goal.returns
returns c =
    let m = c.args.self in
    let e : of_int binary32 (pos c.volts.result) ≡ nearest (nominal_volts m) 1 = ap (λ (n : ℕ). of_int binary32 (pos n)) c.volts.ensures ∙ voltage_cast m in
    record { value = e ∙ voltage_nearest m; nearest = e }
