-- What comes of each figure, by the definitions of the crate values.
use Rattle.std.specs.Prelude.{to_bits, Float}
use Rattle.std.specs.Float.{binary32}
use Rattle.values.specs.Model.{nominal_voltage, nominal_current}
use Rattle.values.specs.Ranges.{at_most, voltage_admitted, current_admitted, speed_admitted, stored_maximum, limit_value, out_of_bounds}
use Rattle.values.specs.Steps.{set_steps, limit_steps, ramp_step}
use Rattle.values.specs.Words.{value_of, upper_word, lower_word}
use Rattle.figures.specs.declared.figure.Figure.{Figure}
use Rattle.figures.specs.declared.figure.Figure.TheVariants as figure
use Rattle.figures.specs.declared.figure.Outcome.{Outcome}
use Rattle.figures.specs.declared.figure.Outcome.TheVariants.{Pattern, Word, Count, Truth}

abbrev pub pattern_of : Float → Outcome
pattern_of x = Pattern (to_bits binary32 x)

abbrev pub outcome_of : Figure → Outcome
outcome_of (figure.Join w) = pattern_of (value_of w.upper w.lower)
outcome_of (figure.UpperWord x) = Word (upper_word x)
outcome_of (figure.LowerWord x) = Word (lower_word x)
outcome_of (figure.NominalVoltage m) = pattern_of (nominal_voltage m)
outcome_of (figure.NominalCurrent m) = pattern_of (nominal_current m)
outcome_of (figure.SetSteps m x) = Count (set_steps m x)
outcome_of (figure.LimitSteps x) = Count (limit_steps x)
outcome_of (figure.RampStep x) = Count (ramp_step x)
outcome_of (figure.AtMost x top) = Truth (at_most x top)
outcome_of (figure.VoltageAdmitted m x) = Truth (voltage_admitted m x)
outcome_of (figure.CurrentAdmitted m x) = Truth (current_admitted m x)
outcome_of (figure.SpeedAdmitted x) = Truth (speed_admitted x)
outcome_of (figure.StoredMaximum x) = pattern_of (stored_maximum x)
outcome_of (figure.Limit nominal x) = pattern_of (limit_value nominal x)
outcome_of (figure.OutOfBounds x setpoint bounds) = Truth (out_of_bounds x setpoint bounds)
