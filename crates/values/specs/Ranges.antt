-- Which values are admitted, and the limits.
use Rattle.std.specs.Prelude.{Bool, cond, not, ◌&&◌, from_bits, Float}
use Rattle.std.specs.Float.{binary32}
use Rattle.std.specs.Float.Ieee.{lt, le, mul, div, sub, neg}
use Rattle.values.specs.declared.model.Model.{Model}
use Rattle.values.specs.Model.{nominal_voltage, nominal_current}

abbrev pub zero : Float
zero = from_bits binary32 0

abbrev pub hundred : Float
hundred = from_bits binary32 0x42C8_0000

-- in per cent a second, the number nearest to 0.04
abbrev pub lowest_speed : Float
lowest_speed = from_bits binary32 0x3D23_D70A

abbrev pub highest_speed : Float
highest_speed = from_bits binary32 0x4120_0000

-- false where either is not a number
abbrev pub at_most : Float → Float → Bool
at_most x top = le x top

-- both ends are admitted, and minus zero where zero is
abbrev pub within : Float → Float → Float → Bool
within low x high = at_most low x && at_most x high

abbrev pub voltage_admitted : Model → Float → Bool
voltage_admitted model volts = within zero volts (nominal_voltage model)

abbrev pub current_admitted : Model → Float → Bool
current_admitted model amperes = within zero amperes (nominal_current model)

abbrev pub percent_admitted : Float → Bool
percent_admitted percent = within zero percent hundred

abbrev pub speed_admitted : Float → Bool
speed_admitted percent = within lowest_speed percent highest_speed

-- a maximum that is not admitted is stored as 0
abbrev pub stored_maximum : Float → Float
stored_maximum percent = cond (percent_admitted percent) percent zero

-- one product and one quotient, each rounded once
abbrev pub limit_value : Float → Float → Float
limit_value nominal percent = div binary32 (mul binary32 nominal percent) hundred

-- |x - setpoint| is at most the bounds: one subtraction, and neither sign of it is above
abbrev pub near : Float → Float → Float → Bool
near x setpoint bounds = at_most (sub binary32 x setpoint) bounds && at_most (neg (sub binary32 x setpoint)) bounds

-- bounds of 0 bound nothing; not a number is out of bounds
abbrev pub out_of_bounds : Float → Float → Float → Bool
out_of_bounds x setpoint bounds = lt zero bounds && not (near x setpoint bounds)
