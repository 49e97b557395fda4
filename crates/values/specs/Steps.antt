-- How many whole steps a value is. `fin s m e` is the exact value m * 2 ^ e, negative where s is true; 2 ^ e is up e / down e.
use Rattle.std.specs.Prelude.{◌≡◌, ℕ, ◌+◌, ◌-◌, ◌*◌, ◌/◌, ◌^◌, ◌≤◌, min, true, false, Float}
use Rattle.std.specs.Float.{nan, inf, fin}
use Rattle.std.specs.Float.Ieee.{up, down}
use Rattle.values.specs.declared.model.Model.{Model}
use Rattle.values.specs.Model.{nominal_volts}

-- The exact value times numerator / denominator, rounded down to a whole number, and no more than 32 bits hold.
-- What is below zero and what is not a number count as 0.
abbrev pub rounded_down : ℕ → ℕ → Float → ℕ
rounded_down numerator denominator nan = 0
rounded_down numerator denominator (inf true) = 0
rounded_down numerator denominator (inf false) = 2 ^ 32 - 1
rounded_down numerator denominator (fin true m e) = 0
rounded_down numerator denominator (fin false m e) = min (m * up e * numerator / (down e * denominator)) (2 ^ 32 - 1)

-- the nominal voltage is 100,000 steps
abbrev pub set_steps : Model → Float → ℕ
set_steps model volts = rounded_down 100000 (nominal_volts model) volts

-- 100 per cent are 100,000 steps
abbrev pub limit_steps : Float → ℕ
limit_steps percent = rounded_down 1000 1 percent

-- the steps of a round, a tenth of a second, at a speed in per cent a second
abbrev pub ramp_step : Float → ℕ
ramp_step percent = rounded_down 100 1 percent

-- The exact value x is at least n steps, each of denominator / numerator. Minus zero reaches the step 0.
abbrev pub Reaches : ℕ → ℕ → Float → ℕ → Type 0
Reaches numerator denominator nan n = ⊥
Reaches numerator denominator (inf true) n = ⊥
Reaches numerator denominator (inf false) n = Unit {0}
Reaches numerator denominator (fin true m e) n = n * denominator * down e + m * up e * numerator ≡ 0
Reaches numerator denominator (fin false m e) n = n * denominator * down e ≤ m * up e * numerator

-- n is the last step that x reaches, and is between first and last
pub record LastStep (numerator denominator first last : ℕ) (x : Float) (n : ℕ) : Type 0 where
  pub at_least : first ≤ n
  pub at_most : n ≤ last
  pub reached : Reaches numerator denominator x n
  pub next : Reaches numerator denominator x (n + 1) → ⊥
