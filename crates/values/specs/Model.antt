-- The six models and their nominal values, each the binary32 number nearest to its whole volts or milliamperes.
use Rattle.std.specs.Prelude.{◌≡◌, ℕ, false, cond, List, ◌++◌, Some, None, Option, Result, MatchResult, ◌==◌, codes, decimal, from_bits, Float, ◌≢◌}
use Rattle.std.specs.Result.{result_ok}
use Rattle.std.specs.Float.{binary32}
use Rattle.std.specs.Float.Ieee.{round}
use Rattle.values.specs.declared.model.Model.{Model}
use Rattle.values.specs.declared.model.UnknownModel.{UnknownModel}
use Rattle.values.specs.declared.model.Model.TheVariants.{V500, V1000, V2000, V3000, V4000, V6000}

abbrev pub nominal_volts : Model → ℕ
nominal_volts V500 = 500
nominal_volts V1000 = 1000
nominal_volts V2000 = 2000
nominal_volts V3000 = 3000
nominal_volts V4000 = 4000
nominal_volts V6000 = 6000

abbrev pub nominal_milliamperes : Model → ℕ
nominal_milliamperes V500 = 15
nominal_milliamperes V1000 = 8
nominal_milliamperes V2000 = 4
nominal_milliamperes V3000 = 3
nominal_milliamperes V4000 = 2
nominal_milliamperes V6000 = 1

-- the binary32 number nearest to a fraction
abbrev pub nearest : ℕ → ℕ → Float
nearest numerator denominator = round binary32 false numerator denominator

-- in volts
abbrev pub nominal_voltage : Model → Float
nominal_voltage V500 = from_bits binary32 0x43FA_0000
nominal_voltage V1000 = from_bits binary32 0x447A_0000
nominal_voltage V2000 = from_bits binary32 0x44FA_0000
nominal_voltage V3000 = from_bits binary32 0x453B_8000
nominal_voltage V4000 = from_bits binary32 0x457A_0000
nominal_voltage V6000 = from_bits binary32 0x45BB_8000

-- in amperes
abbrev pub nominal_current : Model → Float
nominal_current V500 = from_bits binary32 0x3C75_C28F
nominal_current V1000 = from_bits binary32 0x3C03_126F
nominal_current V2000 = from_bits binary32 0x3B83_126F
nominal_current V3000 = from_bits binary32 0x3B44_9BA6
nominal_current V4000 = from_bits binary32 0x3B03_126F
nominal_current V6000 = from_bits binary32 0x3A83_126F

-- the model of so many nominal volts, where there is one
abbrev pub with_volts : ℕ → Option Model
with_volts v =
    cond (v == 500) (Some V500)
    (cond (v == 1000) (Some V1000)
    (cond (v == 2000) (Some V2000)
    (cond (v == 3000) (Some V3000)
    (cond (v == 4000) (Some V4000)
    (cond (v == 6000) (Some V6000)
    None)))))

-- what the conversion of so many volts answers: the model that has them, or an error that carries them, and no model has them
abbrev pub FromVolts : ℕ → Result Model UnknownModel → Type 0
FromVolts volts r =
    (result_ok r ≡ with_volts volts)
    × MatchResult r (λ m. nominal_volts m ≡ volts) (λ e. (e.volts ≡ volts) × ((m : Model) → nominal_volts m ≢ volts))

-- what is told of volts that no model has
abbrev pub unknown_text : ℕ → List ℕ
unknown_text v = codes "no model of " ++ decimal v ++ codes " V"
