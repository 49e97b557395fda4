-- What carrying out an order does, and when it is refused.
use Rattle.std.specs.Prelude.{ℕ, ◌-◌, ◌<◌, min, Bool, true, false, cond, not, ◌++◌, map, drop, Ok, Err, Result, ◌==◌, bit_and, bit_or, nat_lt}
use Rattle.std.specs.List.{list_any}
use Rattle.values.specs.declared.model.Model.{Model}
use Rattle.values.specs.Ranges.{voltage_admitted, current_admitted, speed_admitted}
use Rattle.registers.specs.declared.fault.ModuleFault.{ModuleFault}
use Rattle.registers.specs.Faults.{refusal_5, refusal_6}
use Rattle.table.specs.declared.records.Groups.{Groups}
use Rattle.table.specs.declared.records.Table.{Table}
use Rattle.table.specs.declared.change.Change.{Change}
use Rattle.table.specs.declared.change.Change.TheVariants as change
use Rattle.table.specs.declared.order.Order.{Order}
use Rattle.table.specs.declared.order.Order.TheVariants as order
use Rattle.table.specs.declared.setting.Setting.{Setting}
use Rattle.table.specs.declared.carrying.Drive.{Drive}
use Rattle.table.specs.declared.carrying.Drive.TheVariants as drive
use Rattle.table.specs.Changes.{changed, switch_refused, with_set_value, with_set_bound}
use Rattle.table.specs.Orders.{Subject, of_module, of_channel, of_all, subject_of, Quantity, volts, amperes, percent, on_off, bits, quantity_of, Switching, unswitched, turned_on, emergency, switching_of, sets_emergency, sets_on}
use Rattle.table.specs.Parts.{with_channels, with_channel, with_kill_enable, with_events, with_mask, with_channel_events, with_channel_mask, with_speed, with_groups}
use Rattle.table.specs.Reads.{channel_of, placed, passes, placed_channels}

-- bit 14 of a ModuleControl word is KillEnable, bit 6 is doCLEAR
abbrev pub kill_enable : ℕ → Bool
kill_enable w = not (bit_and w 0x4000 == 0)

abbrev pub do_clear : ℕ → Bool
do_clear w = not (bit_and w 0x0040 == 0)

-- with bit 5, bit 3 is ignored
abbrev pub control_change : ℕ → Change
control_change w = cond (sets_emergency w) change.EmergencyOff (change.Switch (sets_on w))

-- one channel is changed
abbrev pub changed_at : Table → ℕ → Change → Table
changed_at t k x = with_channel t k (changed (channel_of t k) x)

-- every channel of a module of n is changed
abbrev pub changed_all : ℕ → Table → Change → Table
changed_all n t x = with_channels t (map (λ c. changed c x) (placed n t) ++ drop (min n 12) t.channels)

-- a module event passes the module's mask
abbrev pub module_passes : Table → Bool
module_passes t = passes t.events t.mask

-- doCLEAR clears all events, the collected ones too, and the kills
abbrev pub cleared : ℕ → Table → Table
cleared n t = with_channel_events (with_events (changed_all n t change.Clear) 0) 0

abbrev pub controlled : ℕ → Table → ℕ → Table
controlled n t w = with_kill_enable (cond (do_clear w) (cleared n t) t) (kill_enable w)

-- a group keeps its last accepted value

abbrev pub with_group_setting : Groups → Setting → Groups
with_group_setting g x = record { setpoint = with_set_value g.setpoint x; bounds = with_set_bound g.bounds x; emergency = g.emergency; on_off = g.on_off }

abbrev pub with_emergency : Groups → ℕ → Groups
with_emergency g d = record { setpoint = g.setpoint; bounds = g.bounds; emergency = d; on_off = g.on_off }

abbrev pub with_on_off : Groups → ℕ → Groups
with_on_off g d = record { setpoint = g.setpoint; bounds = g.bounds; emergency = g.emergency; on_off = d }

-- the defined bits of the module's event mask: 14, 13, 10 and 6
abbrev pub module_mask_bits : ℕ
module_mask_bits = 0x6440

-- what an admitted order does
abbrev pub obeyed : ℕ → Table → Order → Table
obeyed n t (order.ModuleControl w) = controlled n t w
obeyed n t (order.ClearModuleEvents w) = with_events t (bit_and t.events (0xFFFF - w))
obeyed n t (order.ModuleEventMask w) = with_mask t (bit_and w module_mask_bits)
obeyed n t (order.ClearCollectedEvents w) = with_channel_events t (bit_and t.channel_events (0xFFFF - w))
obeyed n t (order.CollectedEventMask w) = with_channel_mask t (bit_and w (placed_channels n))
obeyed n t (order.RampSpeed v) = with_speed t v
obeyed n t (order.ChannelControl k w) = changed_at t k (control_change w)
obeyed n t (order.ClearChannelEvents k w) = changed_at t k (change.ClearEvents w)
obeyed n t (order.ChannelEventMask k w) = changed_at t k (change.EventMask w)
obeyed n t (order.ChannelSetting k x) = changed_at t k (change.Set x)
obeyed n t (order.GroupSetting x) = with_groups (changed_all n t (change.Set x)) (with_group_setting t.groups x)
obeyed n t (order.GroupEmergency d) = with_groups (changed_all n t change.EmergencyOff) (with_emergency t.groups d)
obeyed n t (order.GroupSwitch d) = with_groups (changed_all n t (change.Switch (d == 1))) (with_on_off t.groups d)

-- a value that is not admitted sets isIERR and EIERR of its channel, or the module's input error event
abbrev pub error_noted : Table → Subject → Table
error_noted t of_module = with_events t (bit_or t.events 0x0040)
error_noted t (of_channel k) = changed_at t k change.InputError
error_noted t of_all = with_events t (bit_or t.events 0x0040)

-- the value is admitted; a word always is
abbrev pub admitted : Model → Quantity → Bool
admitted m (volts v) = voltage_admitted m v
admitted m (amperes v) = current_admitted m v
admitted m (percent v) = speed_admitted v
admitted m (on_off d) = nat_lt d 2
admitted m bits = true

-- which levels are driven to 0
abbrev pub drive_of : Subject → Switching → Drive
drive_of of_module s = drive.Nothing
drive_of (of_channel k) unswitched = drive.Nothing
drive_of (of_channel k) turned_on = drive.Nothing
drive_of (of_channel k) emergency = drive.ToZero k
drive_of of_all unswitched = drive.Nothing
drive_of of_all turned_on = drive.Nothing
drive_of of_all emergency = drive.AllToZero

-- the channel that is driven to 0, if there is one, is below n
abbrev pub DrivePlaced : ℕ → Drive → Type 0
DrivePlaced n drive.Nothing = Unit {0}
DrivePlaced n (drive.ToZero k) = k < n
DrivePlaced n drive.AllToZero = Unit {0}

-- it would switch on a blocked channel that is off; the group, any such
abbrev pub blocked_switch : ℕ → Table → Subject → Switching → Bool
blocked_switch n t of_module s = false
blocked_switch n t (of_channel k) unswitched = false
blocked_switch n t (of_channel k) turned_on = switch_refused (module_passes t) (channel_of t k)
blocked_switch n t (of_channel k) emergency = false
blocked_switch n t of_all unswitched = false
blocked_switch n t of_all turned_on = list_any (switch_refused (module_passes t)) (placed n t)
blocked_switch n t of_all emergency = false

-- carried out whole, or refused with the first number that fits
abbrev pub carried : ℕ → Table → Order → Table
carried n t x =
    cond (admitted t.model (quantity_of x)) (cond (blocked_switch n t (subject_of x) (switching_of x)) t (obeyed n t x)) (error_noted t (subject_of x))

abbrev pub carried_answer : ℕ → Table → Order → ℕ → Result Drive ModuleFault
carried_answer n t x o =
    cond (admitted t.model (quantity_of x))
    (cond (blocked_switch n t (subject_of x) (switching_of x)) (Err (refusal_6 o)) (Ok (drive_of (subject_of x) (switching_of x))))
    (Err (refusal_5 o))
