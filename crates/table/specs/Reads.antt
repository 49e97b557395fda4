-- What the registers of a module of n channels read.
use Rattle.std.specs.Prelude.{ℕ, ◌+◌, ◌-◌, ◌/◌, ◌%◌, ◌^◌, min, Bool, false, not, ◌&&◌, ◌||◌, List, take, Ok, Err, Result, ◌==◌, bit_and, from_bits, slice_index_or, to_bits, Float}
use Rattle.std.specs.Float.{binary32, nan}
use Rattle.std.specs.List.{list_any}
use Rattle.values.specs.Ranges.{at_most}
use Rattle.registers.specs.declared.fault.ModuleFault.{ModuleFault}
use Rattle.registers.specs.declared.place.ModuleWord.{ModuleWord}
use Rattle.registers.specs.declared.place.ModuleWord.TheVariants as word
use Rattle.registers.specs.declared.place.ModuleValue.{ModuleValue}
use Rattle.registers.specs.declared.place.ModuleValue.TheVariants as value
use Rattle.registers.specs.declared.place.GroupValue.{GroupValue}
use Rattle.registers.specs.declared.place.GroupValue.TheVariants as group
use Rattle.registers.specs.declared.place.WordRegister.{WordRegister}
use Rattle.registers.specs.declared.place.WordRegister.TheVariants as wr
use Rattle.registers.specs.declared.place.ValueRegister.{ValueRegister}
use Rattle.registers.specs.declared.place.ValueRegister.TheVariants as vr
use Rattle.registers.specs.declared.place.Place.{Place}
use Rattle.registers.specs.declared.place.Place.TheVariants as place
use Rattle.registers.specs.Map.{located}
use Rattle.table.specs.Both.{Amounts, Flags}
use Rattle.table.specs.declared.records.Channel.{Channel}
use Rattle.table.specs.declared.records.Conditions.{Conditions}
use Rattle.table.specs.declared.records.Groups.{Groups}
use Rattle.table.specs.declared.records.Table.{Table}
use Rattle.table.specs.Words.{bit, alarmed, channel_word, channel_bits}

-- what stands where there is no record
abbrev pub no_amounts : Amounts
no_amounts = record { voltage = nan; current = nan }

abbrev pub no_flags : Flags
no_flags = record { voltage = false; current = false }

abbrev pub no_channel : Channel
no_channel = record {
  findings = record { over = no_flags; inhibited = false; outside = no_flags; control = no_flags };
  kill = false;
  emergency = false;
  ramping = false;
  on = false;
  error = false;
  events = 0;
  mask = 0;
  setpoint = no_amounts;
  bounds = no_amounts;
  measured = no_amounts;
}

-- channel k of the table
abbrev pub channel_of : Table → ℕ → Channel
channel_of t k = slice_index_or t.channels k no_channel

-- the channels of a module of n
abbrev pub placed : ℕ → Table → List Channel
placed n t = take (min n 12) t.channels

abbrev pub any_ramping : List Channel → Bool
any_ramping = list_any (λ c. c.ramping)

abbrev pub any_alarmed : List Channel → Bool
any_alarmed = list_any alarmed

-- an event that its mask lets through
abbrev pub passes : ℕ → ℕ → Bool
passes events mask = not (bit_and events mask == 0)

-- at most 55 degrees
abbrev pub temperature_good : Conditions → Bool
temperature_good c = at_most c.temperature (from_bits binary32 0x425C_0000)

abbrev pub quiet : ℕ → Table → Bool
quiet n t = not (any_alarmed (placed n t))

abbrev pub still : ℕ → Table → Bool
still n t = not (any_ramping (placed n t))

-- temperature, supply and loop good, and no channel has a status bit of 15 to 10
abbrev pub all_good : Conditions → Bool → Bool
all_good c q = temperature_good c && (c.supply_good && (c.loop_closed && q))

abbrev pub event_active : Table → Bool
event_active t = passes t.events t.mask || passes t.channel_events t.channel_mask

-- 15 KillEnable; 14, 13 and 10 temperature, supply and loop good; 12 these three and bit 8; 11 an event passes its mask;
-- 9 no channel ramps; 8 no channel has a status bit of 15 to 10
abbrev pub module_status : ℕ → Table → ℕ
module_status n t =
    bit 0x8000 t.kill_enable
    + bit 0x4000 (temperature_good t.conditions)
    + bit 0x2000 t.conditions.supply_good
    + bit 0x1000 (all_good t.conditions (quiet n t))
    + bit 0x0800 (event_active t)
    + bit 0x0400 t.conditions.loop_closed
    + bit 0x0200 (still n t)
    + bit 0x0100 (quiet n t)

-- ModuleControl reads only KillEnable
abbrev pub module_control : Table → ℕ
module_control t = bit 0x4000 t.kill_enable

-- the low n bits
abbrev pub placed_channels : ℕ → ℕ
placed_channels n = 2 ^ min n 12 - 1

abbrev pub module_word : ℕ → Table → ModuleWord → ℕ
module_word n t word.Status = module_status n t
module_word n t word.Control = module_control t
module_word n t word.EventStatus = t.events
module_word n t word.EventMask = t.mask
module_word n t word.EventChannelStatus = t.channel_events
module_word n t word.EventChannelMask = t.channel_mask
module_word n t word.PlacedChannels = placed_channels n
module_word n t word.DeviceClass = 0x0014

abbrev pub module_amount : Table → ModuleValue → Float
module_amount t value.VoltageRampSpeed = t.speed
module_amount t value.VoltageMax = t.conditions.maxima.voltage
module_amount t value.CurrentMax = t.conditions.maxima.current
module_amount t value.Temperature = t.conditions.temperature

abbrev pub module_bits : Table → ModuleValue → ℕ
module_bits t v = to_bits binary32 (module_amount t v)

-- a group reads as its last accepted value
abbrev pub group_bits : Groups → GroupValue → ℕ
group_bits g group.Voltage = to_bits binary32 g.setpoint.voltage
group_bits g group.Current = to_bits binary32 g.setpoint.current
group_bits g group.VoltageBounds = to_bits binary32 g.bounds.voltage
group_bits g group.CurrentBounds = to_bits binary32 g.bounds.current
group_bits g group.Emergency = g.emergency
group_bits g group.OnOff = g.on_off

abbrev pub word_read : ℕ → Table → WordRegister → ℕ
word_read n t (wr.Module w) = module_word n t w
word_read n t (wr.Channel k w) = channel_word (channel_of t k) w

abbrev pub bits_read : Table → ValueRegister → ℕ
bits_read t (vr.Module v) = module_bits t v
bits_read t (vr.Channel k v) = channel_bits t.model (channel_of t k) v
bits_read t (vr.Group g) = group_bits t.groups g

-- a value is read by its halves
abbrev pub place_read : ℕ → Table → Place → ℕ
place_read n t (place.Word r) = word_read n t r
place_read n t (place.Upper r) = bits_read t r / 65536
place_read n t (place.Lower r) = bits_read t r % 65536

abbrev pub read_at : ℕ → Table → Result Place ModuleFault → Result ℕ ModuleFault
read_at n t (Ok p) = Ok (place_read n t p)
read_at n t (Err f) = Err f

abbrev pub read_answer : ℕ → Table → ℕ → Result ℕ ModuleFault
read_answer n t o = read_at n t (located n o)
