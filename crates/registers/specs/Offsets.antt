-- Where each register stands, told from the register, and that the map is nothing else.
use Rattle.std.specs.Prelude.{◌≡◌, ℕ, ◌+◌, ◌≤◌, Ok}
use Rattle.registers.specs.declared.place.ModuleWord.{ModuleWord}
use Rattle.registers.specs.declared.place.ModuleWord.TheVariants as mw
use Rattle.registers.specs.declared.place.ModuleValue.{ModuleValue}
use Rattle.registers.specs.declared.place.ModuleValue.TheVariants as mv
use Rattle.registers.specs.declared.place.ChannelWord.{ChannelWord}
use Rattle.registers.specs.declared.place.ChannelWord.TheVariants as cw
use Rattle.registers.specs.declared.place.ChannelValue.{ChannelValue}
use Rattle.registers.specs.declared.place.ChannelValue.TheVariants as cv
use Rattle.registers.specs.declared.place.GroupValue.{GroupValue}
use Rattle.registers.specs.declared.place.GroupValue.TheVariants as gv
use Rattle.registers.specs.declared.place.WordRegister.{WordRegister}
use Rattle.registers.specs.declared.place.WordRegister.TheVariants as wr
use Rattle.registers.specs.declared.place.ValueRegister.{ValueRegister}
use Rattle.registers.specs.declared.place.ValueRegister.TheVariants as vr
use Rattle.registers.specs.declared.place.Place.{Place}
use Rattle.registers.specs.declared.place.Place.TheVariants as place
use Rattle.registers.specs.Map.{channel_begins, located, Placed}

abbrev pub module_word_offset : ModuleWord → ℕ
module_word_offset mw.Status = 0x00
module_word_offset mw.Control = 0x02
module_word_offset mw.EventStatus = 0x04
module_word_offset mw.EventMask = 0x06
module_word_offset mw.EventChannelStatus = 0x08
module_word_offset mw.EventChannelMask = 0x0A
module_word_offset mw.PlacedChannels = 0x3C
module_word_offset mw.DeviceClass = 0x3E

abbrev pub module_value_offset : ModuleValue → ℕ
module_value_offset mv.VoltageRampSpeed = 0x14
module_value_offset mv.VoltageMax = 0x1C
module_value_offset mv.CurrentMax = 0x20
module_value_offset mv.Temperature = 0x30

-- from where the channel's block begins
abbrev pub channel_word_offset : ChannelWord → ℕ
channel_word_offset cw.Status = 0x00
channel_word_offset cw.Control = 0x02
channel_word_offset cw.EventStatus = 0x04
channel_word_offset cw.EventMask = 0x06

abbrev pub channel_value_offset : ChannelValue → ℕ
channel_value_offset cv.VoltageSet = 0x08
channel_value_offset cv.CurrentSet = 0x0C
channel_value_offset cv.VoltageMeasure = 0x10
channel_value_offset cv.CurrentMeasure = 0x14
channel_value_offset cv.VoltageBounds = 0x18
channel_value_offset cv.CurrentBounds = 0x1C
channel_value_offset cv.VoltageNominal = 0x20
channel_value_offset cv.CurrentNominal = 0x24

abbrev pub group_offset : GroupValue → ℕ
group_offset gv.Voltage = 0x2A0
group_offset gv.Current = 0x2A4
group_offset gv.VoltageBounds = 0x2A8
group_offset gv.CurrentBounds = 0x2AC
group_offset gv.Emergency = 0x2B0
group_offset gv.OnOff = 0x2B4

abbrev pub word_offset : WordRegister → ℕ
word_offset (wr.Module w) = module_word_offset w
word_offset (wr.Channel k w) = channel_begins k + channel_word_offset w

-- a value's own offset is that of its upper half
abbrev pub value_offset : ValueRegister → ℕ
value_offset (vr.Module v) = module_value_offset v
value_offset (vr.Channel k v) = channel_begins k + channel_value_offset v
value_offset (vr.Group g) = group_offset g

abbrev pub offset_of : Place → ℕ
offset_of (place.Word r) = word_offset r
offset_of (place.Upper r) = value_offset r
offset_of (place.Lower r) = value_offset r + 2

-- each place of a module of n channels stands at its own offset, and there only
pub record MapStands : Type 0 where
  pub found : (n : ℕ) (p : Place) → n ≤ 12 → Placed n p → located n (offset_of p) ≡ Ok p
  pub only : (n o : ℕ) (p : Place) → located n o ≡ Ok p → o ≡ offset_of p
