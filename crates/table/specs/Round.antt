-- One channel's part of a round: c is its record, r its reading, p what the round fixes for every channel.
use Rattle.std.specs.Prelude.{ℕ, ◌+◌, ◌-◌, min, Bool, false, cond, not, ◌&&◌, ◌||◌, ◌==◌, bit_or, nat_lt, Float}
use Rattle.std.specs.Float.Ieee.{lt}
use Rattle.values.specs.Model.{nominal_voltage, nominal_current}
use Rattle.values.specs.Ranges.{zero, at_most, out_of_bounds, stored_maximum, limit_value}
use Rattle.values.specs.Steps.{set_steps, limit_steps, ramp_step}
use Rattle.table.specs.Both.{Amounts}
use Rattle.table.specs.declared.records.Channel.{Channel}
use Rattle.table.specs.declared.records.Conditions.{Conditions}
use Rattle.table.specs.declared.records.Findings.{Findings}
use Rattle.table.specs.declared.records.Table.{Table}
use Rattle.table.specs.declared.round.Excess.{Excess}
use Rattle.table.specs.declared.round.Pass.{Pass}
use Rattle.table.specs.declared.round.Reading.{Reading}
use Rattle.table.specs.Carrying.{module_passes}
use Rattle.table.specs.Changes.{blocked, with_voltage}
use Rattle.table.specs.New.{neither}
use Rattle.table.specs.Parts.{with_conditions, with_events}
use Rattle.table.specs.Reads.{temperature_good}
use Rattle.table.specs.Words.{bit}

-- a reading is over a limit if "at most" fails, so not a number is over
abbrev pub over : Float → Float → Bool
over reading limit = not (at_most reading limit)

abbrev pub excess_of : Pass → Channel → Reading → Excess
excess_of p c r = record {
  voltage_limit = over r.voltage p.limits.voltage;
  current_limit = over r.current p.limits.current;
  current_set = over r.current c.setpoint.current;
}

-- with KillEnable on, any of the three stores a kill
abbrev pub kills : Pass → Excess → Bool
kills p x = p.kill_enable && (x.voltage_limit || (x.current_limit || x.current_set))

-- a kill was stored now, or the current is over CurrentSet with KillEnable off on a stage that does not regulate
abbrev pub trips : Pass → Excess → Bool
trips p x = kills p x || (x.current_set && (not p.kill_enable && not p.regulates))

-- the channel is shut off: the loop is open, the inhibit line is low, or it trips
abbrev pub shut_off : Pass → Channel → Reading → Bool
shut_off p c r = not p.loop_closed || (r.inhibit_low || trips p (excess_of p c r))

abbrev pub on_after : Pass → Channel → Reading → Bool
on_after p c r = c.on && not (shut_off p c r)

-- an open loop sets VoltageSet to 0
abbrev pub setpoint_after : Pass → Channel → Amounts
setpoint_after p c = cond p.loop_closed c.setpoint (with_voltage c.setpoint zero)

abbrev pub kept_setpoint : Pass → Channel → Channel
kept_setpoint p c = record {
  findings = c.findings;
  kill = c.kill;
  emergency = c.emergency;
  ramping = c.ramping;
  on = c.on;
  error = c.error;
  events = c.events;
  mask = c.mask;
  setpoint = setpoint_after p c;
  bounds = c.bounds;
  measured = c.measured;
}

-- isCC: on, KillEnable off, over CurrentSet
abbrev pub limiting : Pass → Excess → Bool → Bool
limiting p x on = on && (not p.kill_enable && x.current_set)

-- isVLIM and isCLIM are 0 with KillEnable on; isVBND looks at isRAMP as it was, isCBND does not; isCV: on and not isCC
abbrev pub findings_of : Pass → Channel → Reading → Excess → Bool → Findings
findings_of p c r x on = record {
  over = record { voltage = not p.kill_enable && x.voltage_limit; current = not p.kill_enable && x.current_limit };
  inhibited = r.inhibit_low;
  outside = record {
    voltage = on && (not c.ramping && out_of_bounds r.voltage c.setpoint.voltage c.bounds.voltage);
    current = on && out_of_bounds r.current c.setpoint.current c.bounds.current;
  };
  control = record { voltage = on && not (limiting p x on); current = limiting p x on };
}

-- status bits 15 to 10, 7, 6 and 5 set their events, save that ETRIP follows a trip
abbrev pub found_events : Findings → Bool → Bool → ℕ
found_events f tripped emergency =
    bit 0x8000 f.over.voltage
    + bit 0x4000 f.over.current
    + bit 0x2000 tripped
    + bit 0x1000 f.inhibited
    + bit 0x0800 f.outside.voltage
    + bit 0x0400 f.outside.current
    + bit 0x0080 f.control.voltage
    + bit 0x0040 f.control.current
    + bit 0x0020 emergency

-- what is found, with the set voltage as an open loop leaves it
abbrev pub found : Pass → Channel → Reading → Findings
found p c r = findings_of p (kept_setpoint p c) r (excess_of p c r) (on_after p c r)

-- the events before the level is moved: EOn2Off if isON falls, and those of what is found
abbrev pub events_found : Pass → Channel → Reading → ℕ
events_found p c r =
    bit_or (bit_or c.events (bit 0x0008 (c.on && not (on_after p c r))))
    (found_events (found p c r) (trips p (excess_of p c r)) c.emergency)

-- the channel as it comes to move its level
abbrev pub judged : Pass → Channel → Reading → Channel
judged p c r = record {
  findings = found p c r;
  kill = c.kill || kills p (excess_of p c r);
  emergency = c.emergency;
  ramping = c.ramping;
  on = on_after p c r;
  error = c.error;
  events = events_found p c r;
  mask = c.mask;
  setpoint = setpoint_after p c;
  bounds = c.bounds;
  measured = record { voltage = r.voltage; current = r.current };
}

-- the channel with its reading stored
abbrev pub with_reading : Channel → Reading → Channel
with_reading c r = record {
  findings = c.findings;
  kill = c.kill;
  emergency = c.emergency;
  ramping = c.ramping;
  on = c.on;
  error = c.error;
  events = c.events;
  mask = c.mask;
  setpoint = c.setpoint;
  bounds = c.bounds;
  measured = record { voltage = r.voltage; current = r.current };
}

-- the loop is closed, the inhibit line is high, nothing is over a limit, and no bounds are set
abbrev pub undisturbed : Pass → Channel → Reading → Excess → Bool
undisturbed p c r x =
    p.loop_closed
    && not r.inhibit_low
    && not x.voltage_limit
    && not x.current_limit
    && not x.current_set
    && not (lt zero c.bounds.voltage)
    && not (lt zero c.bounds.current)

-- an undisturbed channel whose reading is stored stays as it is: nothing is found but that it regulates voltage if it is on, and
-- that sets ECV, as isEMCY sets EEMCY
abbrev pub settled : Channel → Channel
settled c = record {
  findings = record {
    over = neither;
    inhibited = false;
    outside = neither;
    control = record { voltage = c.on; current = false };
  };
  kill = c.kill;
  emergency = c.emergency;
  ramping = c.ramping;
  on = c.on;
  error = c.error;
  events = bit_or c.events (bit 0x0080 c.on + bit 0x0020 c.emergency);
  mask = c.mask;
  setpoint = c.setpoint;
  bounds = c.bounds;
  measured = c.measured;
}

-- the goal is 0 if off, else the smaller of set and limit steps
abbrev pub goal_of : Pass → Channel → ℕ
goal_of p c = cond c.on (min (set_steps p.model c.setpoint.voltage) p.limit_steps) 0

-- a higher level falls by the ramp step, but not below the goal; a lower one rises likewise unless the channel is blocked
abbrev pub moved_level : ℕ → ℕ → ℕ → Bool → ℕ
moved_level level goal step held =
    cond (nat_lt goal level) (level - min step (level - goal)) (cond held level (level + min step (goal - level)))

-- the level is first cut to the limit steps; c is the channel as it comes to move its level
abbrev pub ramp_level : Pass → Channel → ℕ → ℕ
ramp_level p c level = moved_level (min level p.limit_steps) (goal_of p c) p.ramp_step (blocked p.module_passes c)

-- isRAMP: the level is not the goal
abbrev pub ramping_after : Pass → Channel → ℕ → Bool
ramping_after p c level = not (ramp_level p c level == goal_of p c)

-- EEOR is set if isRAMP falls and the channel was not shut off
abbrev pub ramped : Pass → Channel → ℕ → Bool → Channel
ramped p c level shut = record {
  findings = c.findings;
  kill = c.kill;
  emergency = c.emergency;
  ramping = ramping_after p c level;
  on = c.on;
  error = c.error;
  events = bit_or c.events (bit 0x0010 (c.ramping && (not (ramping_after p c level) && not shut)));
  mask = c.mask;
  setpoint = c.setpoint;
  bounds = c.bounds;
  measured = c.measured;
}

-- a channel that is shut off is at 0 at once
abbrev pub start_level : Pass → Channel → Reading → ℕ → ℕ
start_level p c r level = cond (shut_off p c r) 0 level

-- the channel and its level after the round
abbrev pub channel_after : Pass → Channel → Reading → ℕ → Channel
channel_after p c r level = ramped p (judged p c r) (start_level p c r level) (shut_off p c r)

abbrev pub level_after : Pass → Channel → Reading → ℕ → ℕ
level_after p c r level = ramp_level p (judged p c r) (start_level p c r level)

-- the conditions as they are stored: a maximum that is outside 0 to 100, or not a number, is stored as 0
abbrev pub stored_conditions : Conditions → Conditions
stored_conditions x = record {
  temperature = x.temperature;
  supply_good = x.supply_good;
  loop_closed = x.loop_closed;
  maxima = record { voltage = stored_maximum x.maxima.voltage; current = stored_maximum x.maxima.current };
}

-- what is not good sets its module event: temperature 14, supply 13, loop 10
abbrev pub condition_events : Conditions → ℕ
condition_events x = bit 0x4000 (not (temperature_good x)) + bit 0x2000 (not x.supply_good) + bit 0x0400 (not x.loop_closed)

-- the table of a round that has begun
abbrev pub begun : Table → Conditions → Table
begun t x = with_events (with_conditions t (stored_conditions x)) (bit_or t.events (condition_events x))

-- a limit is nominal times maximum, then by 100
abbrev pub pass_of : Bool → Table → Pass
pass_of regulates t = record {
  model = t.model;
  kill_enable = t.kill_enable;
  regulates = regulates;
  loop_closed = t.conditions.loop_closed;
  module_passes = module_passes t;
  limits = record {
    voltage = limit_value (nominal_voltage t.model) t.conditions.maxima.voltage;
    current = limit_value (nominal_current t.model) t.conditions.maxima.current;
  };
  limit_steps = limit_steps t.conditions.maxima.voltage;
  ramp_step = ramp_step t.speed;
}
