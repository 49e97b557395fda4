-- The register map: what stands at each offset of a module of n channels.
use Rattle.std.specs.Prelude.{ℕ, ◌+◌, ◌-◌, ◌*◌, ◌/◌, ◌%◌, ◌<◌, Bool, cond, ◌||◌, List, [], ◌∷◌, ◌++◌, Some, None, Ok, Err, Option, Result, ◌==◌, nat_lt}
use Rattle.registers.specs.declared.fault.ModuleFault.{ModuleFault}
use Rattle.registers.specs.declared.place.ModuleWord.TheVariants as mw
use Rattle.registers.specs.declared.place.ModuleValue.TheVariants as mv
use Rattle.registers.specs.declared.place.ChannelWord.TheVariants as cw
use Rattle.registers.specs.declared.place.ChannelValue.TheVariants as cv
use Rattle.registers.specs.declared.place.GroupValue.TheVariants as gv
use Rattle.registers.specs.declared.place.WordRegister.{WordRegister}
use Rattle.registers.specs.declared.place.WordRegister.TheVariants as wr
use Rattle.registers.specs.declared.place.ValueRegister.{ValueRegister}
use Rattle.registers.specs.declared.place.ValueRegister.TheVariants as vr
use Rattle.registers.specs.declared.place.Place.{Place}
use Rattle.registers.specs.declared.place.Place.TheVariants as place
use Rattle.registers.specs.Faults.{refusal_1, refusal_2}

-- an offset, and what stands there
pub record Row : Type 0 where
  pub offset : ℕ
  pub stands : Place

abbrev pub row : ℕ → Place → Row
row o p = record { offset = o; stands = p }

-- a register of one word takes one row
abbrev pub word : ℕ → WordRegister → List Row
word o r = row o (place.Word r) ∷ []

-- a value takes two, the upper half first
abbrev pub value : ℕ → ValueRegister → List Row
value o r = row o (place.Upper r) ∷ row (o + 2) (place.Lower r) ∷ []

-- a value stands at a multiple of 4: so the half of it that stands at o
abbrev pub half_at : ℕ → ValueRegister → Place
half_at o r = cond (o % 4 == 0) (place.Upper r) (place.Lower r)

abbrev pub module_rows : List Row
module_rows =
    word 0x00 (wr.Module mw.Status)
    ++ word 0x02 (wr.Module mw.Control)
    ++ word 0x04 (wr.Module mw.EventStatus)
    ++ word 0x06 (wr.Module mw.EventMask)
    ++ word 0x08 (wr.Module mw.EventChannelStatus)
    ++ word 0x0A (wr.Module mw.EventChannelMask)
    ++ value 0x14 (vr.Module mv.VoltageRampSpeed)
    ++ value 0x1C (vr.Module mv.VoltageMax)
    ++ value 0x20 (vr.Module mv.CurrentMax)
    ++ value 0x30 (vr.Module mv.Temperature)
    ++ word 0x3C (wr.Module mw.PlacedChannels)
    ++ word 0x3E (wr.Module mw.DeviceClass)

-- the rows of channel k, counted from where its block begins
abbrev pub channel_rows : ℕ → List Row
channel_rows k =
    word 0x00 (wr.Channel k cw.Status)
    ++ word 0x02 (wr.Channel k cw.Control)
    ++ word 0x04 (wr.Channel k cw.EventStatus)
    ++ word 0x06 (wr.Channel k cw.EventMask)
    ++ value 0x08 (vr.Channel k cv.VoltageSet)
    ++ value 0x0C (vr.Channel k cv.CurrentSet)
    ++ value 0x10 (vr.Channel k cv.VoltageMeasure)
    ++ value 0x14 (vr.Channel k cv.CurrentMeasure)
    ++ value 0x18 (vr.Channel k cv.VoltageBounds)
    ++ value 0x1C (vr.Channel k cv.CurrentBounds)
    ++ value 0x20 (vr.Channel k cv.VoltageNominal)
    ++ value 0x24 (vr.Channel k cv.CurrentNominal)

abbrev pub group_rows : List Row
group_rows =
    value 0x2A0 (vr.Group gv.Voltage)
    ++ value 0x2A4 (vr.Group gv.Current)
    ++ value 0x2A8 (vr.Group gv.VoltageBounds)
    ++ value 0x2AC (vr.Group gv.CurrentBounds)
    ++ value 0x2B0 (vr.Group gv.Emergency)
    ++ value 0x2B4 (vr.Group gv.OnOff)

-- what stands at o in some rows
abbrev pub stands_in : List Row → ℕ → Option Place
stands_in [] o = None
stands_in (r ∷ rs) o = cond (o == r.offset) (Some r.stands) (stands_in rs o)

-- channel k begins at 60 + k × 30, hexadecimal, and has 48 bytes
abbrev pub channel_begins : ℕ → ℕ
channel_begins k = 0x60 + k * 0x30

abbrev pub channel_at : ℕ → ℕ
channel_at o = (o - 0x60) / 0x30

abbrev pub within_channel : ℕ → ℕ
within_channel o = (o - 0x60) % 0x30

-- what stands at the offset o; none is an empty place, as are channels from n up
abbrev pub place_at : ℕ → ℕ → Option Place
place_at n o =
    cond (nat_lt o 0x60) (stands_in module_rows o)
    (cond (nat_lt o 0x2A0) (cond (nat_lt (channel_at o) n) (stands_in (channel_rows (channel_at o)) (within_channel o)) None)
    (stands_in group_rows o))

-- an offset that no word has: odd, or above 3FE
abbrev pub outside : ℕ → Bool
outside o = o % 2 == 1 || nat_lt 0x3FE o

-- what the test of an offset answers
abbrev pub checked : ℕ → Result Unit ModuleFault
checked o = cond (outside o) (Err (refusal_1 o)) (Ok tt)

abbrev pub filled : ℕ → Option Place → Result Place ModuleFault
filled o None = Err (refusal_2 o)
filled o (Some p) = Ok p

abbrev pub located : ℕ → ℕ → Result Place ModuleFault
located n o = cond (outside o) (Err (refusal_1 o)) (filled o (place_at n o))

-- the channel of a place, if it has one, is below n
abbrev pub WordPlaced : ℕ → WordRegister → Type 0
WordPlaced n (wr.Module w) = Unit {0}
WordPlaced n (wr.Channel k w) = k < n

abbrev pub ValuePlaced : ℕ → ValueRegister → Type 0
ValuePlaced n (vr.Module v) = Unit {0}
ValuePlaced n (vr.Channel k v) = k < n
ValuePlaced n (vr.Group g) = Unit {0}

abbrev pub Placed : ℕ → Place → Type 0
Placed n (place.Word r) = WordPlaced n r
Placed n (place.Upper r) = ValuePlaced n r
Placed n (place.Lower r) = ValuePlaced n r

abbrev pub SomePlaced : ℕ → Option Place → Type 0
SomePlaced n None = Unit {0}
SomePlaced n (Some p) = Placed n p
