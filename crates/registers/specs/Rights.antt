-- Which registers may be written. The others are read only.
use Rattle.std.specs.Prelude.{Bool, true, false}
use Rattle.registers.specs.declared.place.ModuleWord.{ModuleWord}
use Rattle.registers.specs.declared.place.ModuleWord.TheVariants as mw
use Rattle.registers.specs.declared.place.ModuleValue.{ModuleValue}
use Rattle.registers.specs.declared.place.ModuleValue.TheVariants as mv
use Rattle.registers.specs.declared.place.ChannelWord.{ChannelWord}
use Rattle.registers.specs.declared.place.ChannelWord.TheVariants as cw
use Rattle.registers.specs.declared.place.ChannelValue.{ChannelValue}
use Rattle.registers.specs.declared.place.ChannelValue.TheVariants as cv
use Rattle.registers.specs.declared.place.WordRegister.{WordRegister}
use Rattle.registers.specs.declared.place.WordRegister.TheVariants as wr
use Rattle.registers.specs.declared.place.ValueRegister.{ValueRegister}
use Rattle.registers.specs.declared.place.ValueRegister.TheVariants as vr
use Rattle.registers.specs.declared.place.Place.{Place}
use Rattle.registers.specs.declared.place.Place.TheVariants as place

abbrev pub module_word_writable : ModuleWord → Bool
module_word_writable mw.Status = false
module_word_writable mw.Control = true
module_word_writable mw.EventStatus = true
module_word_writable mw.EventMask = true
module_word_writable mw.EventChannelStatus = true
module_word_writable mw.EventChannelMask = true
module_word_writable mw.PlacedChannels = false
module_word_writable mw.DeviceClass = false

abbrev pub module_value_writable : ModuleValue → Bool
module_value_writable mv.VoltageRampSpeed = true
module_value_writable mv.VoltageMax = false
module_value_writable mv.CurrentMax = false
module_value_writable mv.Temperature = false

abbrev pub channel_word_writable : ChannelWord → Bool
channel_word_writable cw.Status = false
channel_word_writable cw.Control = true
channel_word_writable cw.EventStatus = true
channel_word_writable cw.EventMask = true

abbrev pub channel_value_writable : ChannelValue → Bool
channel_value_writable cv.VoltageSet = true
channel_value_writable cv.CurrentSet = true
channel_value_writable cv.VoltageMeasure = false
channel_value_writable cv.CurrentMeasure = false
channel_value_writable cv.VoltageBounds = true
channel_value_writable cv.CurrentBounds = true
channel_value_writable cv.VoltageNominal = false
channel_value_writable cv.CurrentNominal = false

abbrev pub word_writable : WordRegister → Bool
word_writable (wr.Module w) = module_word_writable w
word_writable (wr.Channel k w) = channel_word_writable w

-- a group may always be written
abbrev pub value_writable : ValueRegister → Bool
value_writable (vr.Module v) = module_value_writable v
value_writable (vr.Channel k v) = channel_value_writable v
value_writable (vr.Group g) = true

abbrev pub writable : Place → Bool
writable (place.Word w) = word_writable w
writable (place.Upper v) = value_writable v
writable (place.Lower v) = value_writable v
