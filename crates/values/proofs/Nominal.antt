-- The patterns of the nominal values are those of the nearest numbers, which the code computes.
use Rattle.std.proofs.Common.{◌≡◌, pos, refl}
use lib.Ieee.{binary32, of_bits, of_int, round, div}
use Rattle.values.specs.declared.model.Model.{Model}
use Rattle.values.specs.declared.model.Model.TheVariants.{V500, V1000, V2000, V3000, V4000, V6000}
use Rattle.values.specs.Model.{nominal_volts, nominal_milliamperes, nominal_voltage, nominal_current, nearest}

pub each_model : (P : Model → Type 0) → P V500 → P V1000 → P V2000 → P V3000 → P V4000 → P V6000 → (m : Model) → P m
each_model P a b c d e f V500 = a
each_model P a b c d e f V1000 = b
each_model P a b c d e f V2000 = c
each_model P a b c d e f V3000 = d
each_model P a b c d e f V4000 = e
each_model P a b c d e f V6000 = f

pub voltage_cast : (m : Model) → of_int binary32 (pos (nominal_volts m)) ≡ nearest (nominal_volts m) 1
unfolding of_int
voltage_cast m = refl

pub voltage_nearest : (m : Model) → nearest (nominal_volts m) 1 ≡ nominal_voltage m
unfolding of_bits round
voltage_nearest = each_model (λ m. nearest (nominal_volts m) 1 ≡ nominal_voltage m) refl refl refl refl refl refl

pub current_quotient : (m : Model) → div binary32 (of_int binary32 (pos (nominal_milliamperes m))) (of_bits binary32 0x447A_0000) ≡ nominal_current m
unfolding of_bits of_int div
current_quotient = each_model (λ m. div binary32 (of_int binary32 (pos (nominal_milliamperes m))) (of_bits binary32 0x447A_0000) ≡ nominal_current m) refl refl refl refl refl refl

pub current_nearest : (m : Model) → nearest (nominal_milliamperes m) 1000 ≡ nominal_current m
unfolding of_bits round
current_nearest = each_model (λ m. nearest (nominal_milliamperes m) 1000 ≡ nominal_current m) refl refl refl refl refl refl
