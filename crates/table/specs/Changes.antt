-- What an order does to one channel.
use Rattle.std.specs.Prelude.{ℕ, ◌-◌, Bool, true, false, not, ◌&&◌, ◌||◌, bit_and, bit_or, Float}
use Rattle.table.specs.Both.{Amounts}
use Rattle.table.specs.declared.records.Channel.{Channel}
use Rattle.table.specs.declared.change.Change.{Change}
use Rattle.table.specs.declared.change.Change.TheVariants as change
use Rattle.table.specs.declared.setting.Setting.{Setting}
use Rattle.table.specs.declared.setting.Setting.TheVariants as setting
use Rattle.table.specs.Words.{bit}
use Rattle.table.specs.Reads.{passes}

-- a channel in which some fields are others

abbrev pub with_switching : Channel → Bool → Bool → Bool → ℕ → Channel
with_switching c emergency ramping on events = record {
  findings = c.findings;
  kill = c.kill;
  emergency = emergency;
  ramping = ramping;
  on = on;
  error = c.error;
  events = events;
  mask = c.mask;
  setpoint = c.setpoint;
  bounds = c.bounds;
  measured = c.measured;
}

abbrev pub with_events : Channel → Bool → Bool → ℕ → ℕ → Channel
with_events c kill error events mask = record {
  findings = c.findings;
  kill = kill;
  emergency = c.emergency;
  ramping = c.ramping;
  on = c.on;
  error = error;
  events = events;
  mask = mask;
  setpoint = c.setpoint;
  bounds = c.bounds;
  measured = c.measured;
}

-- accepted volts and amperes reset isIERR
abbrev pub with_values : Channel → Amounts → Amounts → Channel
with_values c setpoint bounds = record {
  findings = c.findings;
  kill = c.kill;
  emergency = c.emergency;
  ramping = c.ramping;
  on = c.on;
  error = false;
  events = c.events;
  mask = c.mask;
  setpoint = setpoint;
  bounds = bounds;
  measured = c.measured;
}

abbrev pub with_voltage : Amounts → Float → Amounts
with_voltage a v = record { voltage = v; current = a.current }

abbrev pub with_current : Amounts → Float → Amounts
with_current a v = record { voltage = a.voltage; current = v }

-- the set values, and the bounds, after a value is set

abbrev pub with_set_value : Amounts → Setting → Amounts
with_set_value a (setting.Voltage v) = with_voltage a v
with_set_value a (setting.Current v) = with_current a v
with_set_value a (setting.VoltageBounds v) = a
with_set_value a (setting.CurrentBounds v) = a

abbrev pub with_set_bound : Amounts → Setting → Amounts
with_set_bound a (setting.Voltage v) = a
with_set_bound a (setting.Current v) = a
with_set_bound a (setting.VoltageBounds v) = with_voltage a v
with_set_bound a (setting.CurrentBounds v) = with_current a v

-- EOn2Off, if isON falls
abbrev pub falling : Channel → Bool → ℕ
falling c on = bit 0x0008 (c.on && not on)

-- isEMCY and EEMCY are set, isON and isRAMP reset, EOn2Off set if isON falls; the level is driven to 0 too
abbrev pub emergency_off : Channel → Channel
emergency_off c = with_switching c true false false (bit_or (bit_or c.events 0x0020) (bit 0x0008 c.on))

-- isEMCY is reset, and isON is as asked
abbrev pub switched : Channel → Bool → Channel
switched c on = with_switching c false c.ramping on (bit_or c.events (falling c on))

-- the defined bits of a channel's event mask: 15 to 10 and 7 to 2
abbrev pub channel_mask_bits : ℕ
channel_mask_bits = 0xFCFC

abbrev pub changed : Channel → Change → Channel
changed c (change.Set x) = with_values c (with_set_value c.setpoint x) (with_set_bound c.bounds x)
changed c change.EmergencyOff = emergency_off c
changed c (change.Switch on) = switched c on
changed c (change.ClearEvents w) = with_events c c.kill c.error (bit_and c.events (0xFFFF - w)) c.mask
changed c (change.EventMask w) = with_events c c.kill c.error c.events (bit_and w channel_mask_bits)
changed c change.Clear = with_events c false c.error 0 c.mask
changed c change.InputError = with_events c c.kill true (bit_or c.events 0x0004) c.mask

-- an event of the channel passes its own mask
abbrev pub event_passes : Channel → Bool
event_passes c = passes c.events c.mask

-- blocked: it holds a kill, or one of its events passes its mask, or a module event passes the module's
abbrev pub blocked : Bool → Channel → Bool
blocked module_passes c = c.kill || (event_passes c || module_passes)

-- a blocked channel that is off cannot be switched on
abbrev pub switch_refused : Bool → Channel → Bool
switch_refused module_passes c = not c.on && blocked module_passes c
