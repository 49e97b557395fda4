-- The order that each completed write makes.
use Rattle.std.specs.Prelude.{ℕ, ◌+◌, ◌*◌, Bool, cond, not, Some, None, Option, ◌==◌, bit_and, Float}
use Rattle.values.specs.Words.{value_of}
use Rattle.registers.specs.declared.place.ModuleWord.{ModuleWord}
use Rattle.registers.specs.declared.place.ModuleWord.TheVariants as mw
use Rattle.registers.specs.declared.place.ModuleValue.{ModuleValue}
use Rattle.registers.specs.declared.place.ModuleValue.TheVariants as mv
use Rattle.registers.specs.declared.place.ChannelWord.{ChannelWord}
use Rattle.registers.specs.declared.place.ChannelWord.TheVariants as cw
use Rattle.registers.specs.declared.place.ChannelValue.{ChannelValue}
use Rattle.registers.specs.declared.place.ChannelValue.TheVariants as cv
use Rattle.registers.specs.declared.place.GroupValue.{GroupValue}
use Rattle.registers.specs.declared.place.GroupValue.TheVariants as gv
use Rattle.registers.specs.declared.place.WordRegister.{WordRegister}
use Rattle.registers.specs.declared.place.WordRegister.TheVariants as wr
use Rattle.registers.specs.declared.place.ValueRegister.{ValueRegister}
use Rattle.registers.specs.declared.place.ValueRegister.TheVariants as vr
use Rattle.table.specs.declared.order.Order.{Order}
use Rattle.table.specs.declared.order.Order.TheVariants as order
use Rattle.table.specs.declared.setting.Setting.{Setting}
use Rattle.table.specs.declared.setting.Setting.TheVariants as setting

-- none: the register is read only

abbrev pub module_word_order : ModuleWord → ℕ → Option Order
module_word_order mw.Status w = None
module_word_order mw.Control w = Some (order.ModuleControl w)
module_word_order mw.EventStatus w = Some (order.ClearModuleEvents w)
module_word_order mw.EventMask w = Some (order.ModuleEventMask w)
module_word_order mw.EventChannelStatus w = Some (order.ClearCollectedEvents w)
module_word_order mw.EventChannelMask w = Some (order.CollectedEventMask w)
module_word_order mw.PlacedChannels w = None
module_word_order mw.DeviceClass w = None

abbrev pub channel_word_order : ℕ → ChannelWord → ℕ → Option Order
channel_word_order k cw.Status w = None
channel_word_order k cw.Control w = Some (order.ChannelControl k w)
channel_word_order k cw.EventStatus w = Some (order.ClearChannelEvents k w)
channel_word_order k cw.EventMask w = Some (order.ChannelEventMask k w)

abbrev pub word_order : WordRegister → ℕ → Option Order
word_order (wr.Module r) w = module_word_order r w
word_order (wr.Channel k r) w = channel_word_order k r w

abbrev pub module_value_order : ModuleValue → Float → Option Order
module_value_order mv.VoltageRampSpeed v = Some (order.RampSpeed v)
module_value_order mv.VoltageMax v = None
module_value_order mv.CurrentMax v = None
module_value_order mv.Temperature v = None

abbrev pub channel_order : ℕ → ChannelValue → Float → Option Order
channel_order k cv.VoltageSet v = Some (order.ChannelSetting k (setting.Voltage v))
channel_order k cv.CurrentSet v = Some (order.ChannelSetting k (setting.Current v))
channel_order k cv.VoltageMeasure v = None
channel_order k cv.CurrentMeasure v = None
channel_order k cv.VoltageBounds v = Some (order.ChannelSetting k (setting.VoltageBounds v))
channel_order k cv.CurrentBounds v = Some (order.ChannelSetting k (setting.CurrentBounds v))
channel_order k cv.VoltageNominal v = None
channel_order k cv.CurrentNominal v = None

-- the emergency and on/off groups take their 32 bits as a number
abbrev pub group_order : GroupValue → ℕ → ℕ → Order
group_order gv.Voltage u l = order.GroupSetting (setting.Voltage (value_of u l))
group_order gv.Current u l = order.GroupSetting (setting.Current (value_of u l))
group_order gv.VoltageBounds u l = order.GroupSetting (setting.VoltageBounds (value_of u l))
group_order gv.CurrentBounds u l = order.GroupSetting (setting.CurrentBounds (value_of u l))
group_order gv.Emergency u l = order.GroupEmergency (u * 65536 + l)
group_order gv.OnOff u l = order.GroupSwitch (u * 65536 + l)

-- the upper half u and the lower half l make one value
abbrev pub value_order : ValueRegister → ℕ → ℕ → Option Order
value_order (vr.Module r) u l = module_value_order r (value_of u l)
value_order (vr.Channel k r) u l = channel_order k r (value_of u l)
value_order (vr.Group r) u l = Some (group_order r u l)

-- what an order is for: the module, one channel, or all channels
pub data Subject : Type 0 where
  of_module : Subject
  of_channel : ℕ → Subject
  of_all : Subject

abbrev pub subject_of : Order → Subject
subject_of (order.ModuleControl w) = of_module
subject_of (order.ClearModuleEvents w) = of_module
subject_of (order.ModuleEventMask w) = of_module
subject_of (order.ClearCollectedEvents w) = of_module
subject_of (order.CollectedEventMask w) = of_module
subject_of (order.RampSpeed v) = of_module
subject_of (order.ChannelControl k w) = of_channel k
subject_of (order.ClearChannelEvents k w) = of_channel k
subject_of (order.ChannelEventMask k w) = of_channel k
subject_of (order.ChannelSetting k x) = of_channel k
subject_of (order.GroupSetting x) = of_all
subject_of (order.GroupEmergency d) = of_all
subject_of (order.GroupSwitch d) = of_all

-- what its value counts; words, and the data of the emergency group, are bits
pub data Quantity : Type 0 where
  volts : Float → Quantity
  amperes : Float → Quantity
  percent : Float → Quantity
  on_off : ℕ → Quantity
  bits : Quantity

abbrev pub quantity_set : Setting → Quantity
quantity_set (setting.Voltage v) = volts v
quantity_set (setting.Current v) = amperes v
quantity_set (setting.VoltageBounds v) = volts v
quantity_set (setting.CurrentBounds v) = amperes v

abbrev pub quantity_of : Order → Quantity
quantity_of (order.ModuleControl w) = bits
quantity_of (order.ClearModuleEvents w) = bits
quantity_of (order.ModuleEventMask w) = bits
quantity_of (order.ClearCollectedEvents w) = bits
quantity_of (order.CollectedEventMask w) = bits
quantity_of (order.RampSpeed v) = percent v
quantity_of (order.ChannelControl k w) = bits
quantity_of (order.ClearChannelEvents k w) = bits
quantity_of (order.ChannelEventMask k w) = bits
quantity_of (order.ChannelSetting k x) = quantity_set x
quantity_of (order.GroupSetting x) = quantity_set x
quantity_of (order.GroupEmergency d) = bits
quantity_of (order.GroupSwitch d) = on_off d

-- bit 5 of a ChannelControl word is emergency off, bit 3 is on
abbrev pub sets_emergency : ℕ → Bool
sets_emergency w = not (bit_and w 0x0020 == 0)

abbrev pub sets_on : ℕ → Bool
sets_on w = not (bit_and w 0x0008 == 0)

-- whether it switches what it is for on, or off by emergency; with bit 5, bit 3 is ignored
pub data Switching : Type 0 where
  unswitched turned_on emergency : Switching

abbrev pub switching_of : Order → Switching
switching_of (order.ModuleControl w) = unswitched
switching_of (order.ClearModuleEvents w) = unswitched
switching_of (order.ModuleEventMask w) = unswitched
switching_of (order.ClearCollectedEvents w) = unswitched
switching_of (order.CollectedEventMask w) = unswitched
switching_of (order.RampSpeed v) = unswitched
switching_of (order.ChannelControl k w) = cond (sets_emergency w) emergency (cond (sets_on w) turned_on unswitched)
switching_of (order.ClearChannelEvents k w) = unswitched
switching_of (order.ChannelEventMask k w) = unswitched
switching_of (order.ChannelSetting k x) = unswitched
switching_of (order.GroupSetting x) = unswitched
switching_of (order.GroupEmergency d) = emergency
switching_of (order.GroupSwitch d) = cond (d == 1) turned_on unswitched
