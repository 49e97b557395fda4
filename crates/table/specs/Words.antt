-- What the words of a channel read.
use Rattle.std.specs.Prelude.{ℕ, ◌+◌, Bool, cond, ◌||◌, to_bits, Float}
use Rattle.std.specs.Float.{binary32}
use Rattle.values.specs.declared.model.Model.{Model}
use Rattle.values.specs.Model.{nominal_voltage, nominal_current}
use Rattle.registers.specs.declared.place.ChannelWord.{ChannelWord}
use Rattle.registers.specs.declared.place.ChannelWord.TheVariants as word
use Rattle.registers.specs.declared.place.ChannelValue.{ChannelValue}
use Rattle.registers.specs.declared.place.ChannelValue.TheVariants as value
use Rattle.table.specs.declared.records.Channel.{Channel}

-- a bit of that weight, if it is set
abbrev pub bit : ℕ → Bool → ℕ
bit w b = cond b w 0

-- a status bit of 15 to 10 is set
abbrev pub alarmed : Channel → Bool
alarmed c =
    c.findings.over.voltage || (c.findings.over.current || (c.kill || (c.findings.inhibited || (c.findings.outside.voltage || c.findings.outside.current))))

-- VLIM 15, CLIM 14, TRIP 13, EINH 12, VBND 11, CBND 10, CV 7, CC 6, EMCY 5, RAMP 4, ON 3, IERR 2
abbrev pub channel_status : Channel → ℕ
channel_status c =
    bit 0x8000 c.findings.over.voltage
    + bit 0x4000 c.findings.over.current
    + bit 0x2000 c.kill
    + bit 0x1000 c.findings.inhibited
    + bit 0x0800 c.findings.outside.voltage
    + bit 0x0400 c.findings.outside.current
    + (bit 0x0080 c.findings.control.voltage
    + bit 0x0040 c.findings.control.current
    + bit 0x0020 c.emergency
    + bit 0x0010 c.ramping
    + bit 0x0008 c.on
    + bit 0x0004 c.error)

-- ChannelControl reads isEMCY and isON
abbrev pub channel_control : Channel → ℕ
channel_control c = bit 0x0020 c.emergency + bit 0x0008 c.on

abbrev pub channel_word : Channel → ChannelWord → ℕ
channel_word c word.Status = channel_status c
channel_word c word.Control = channel_control c
channel_word c word.EventStatus = c.events
channel_word c word.EventMask = c.mask

abbrev pub channel_amount : Model → Channel → ChannelValue → Float
channel_amount m c value.VoltageSet = c.setpoint.voltage
channel_amount m c value.CurrentSet = c.setpoint.current
channel_amount m c value.VoltageMeasure = c.measured.voltage
channel_amount m c value.CurrentMeasure = c.measured.current
channel_amount m c value.VoltageBounds = c.bounds.voltage
channel_amount m c value.CurrentBounds = c.bounds.current
channel_amount m c value.VoltageNominal = nominal_voltage m
channel_amount m c value.CurrentNominal = nominal_current m

-- the 32 bits of a value; not a number is 7FC00000
abbrev pub channel_bits : Model → Channel → ChannelValue → ℕ
channel_bits m c v = to_bits binary32 (channel_amount m c v)
