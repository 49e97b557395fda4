-- From which write an order comes.
use Rattle.std.proofs.Common.{◌≡◌, ℕ, ◌+◌, ◌*◌, Bool, true, false, cond, eqb, Some, None, Ok, Err, Option, Result, sym, refl, ap, ◌∙◌, subst, arith}
use Rattle.std.proofs.lemmas.Bool.{eqb-true}
use Rattle.values.specs.Words.{value_of}
use Rattle.registers.specs.declared.fault.ModuleFault.{ModuleFault}
use Rattle.registers.specs.declared.place.ModuleWord.TheVariants as mw
use Rattle.registers.specs.declared.place.ModuleValue.TheVariants as mv
use Rattle.registers.specs.declared.place.ChannelWord.TheVariants as cw
use Rattle.registers.specs.declared.place.ChannelValue.TheVariants as cv
use Rattle.registers.specs.declared.place.GroupValue.TheVariants as gv
use Rattle.registers.specs.declared.place.WordRegister.{WordRegister}
use Rattle.registers.specs.declared.place.WordRegister.TheVariants as wr
use Rattle.registers.specs.declared.place.ValueRegister.{ValueRegister}
use Rattle.registers.specs.declared.place.ValueRegister.TheVariants as vr
use Rattle.registers.specs.declared.place.Place.{Place}
use Rattle.registers.specs.declared.place.Place.TheVariants as place
use Rattle.registers.specs.Faults.{refusal_3, refusal_4}
use Rattle.registers.specs.Map.{channel_begins, located}
use Rattle.registers.specs.Offsets.{offset_of, word_offset, value_offset}
use Rattle.registers.specs.Rights.{writable}
use Rattle.registers.proofs.Standing.{map_stands}
use Rattle.table.specs.declared.records.Half.{Half}
use Rattle.table.specs.declared.records.Table.{Table}
use Rattle.table.specs.declared.order.Order.{Order}
use Rattle.table.specs.declared.order.Order.TheVariants as order
use Rattle.table.specs.declared.setting.Setting.{Setting}
use Rattle.table.specs.declared.setting.Setting.TheVariants as setting
use Rattle.table.specs.declared.writing.Request.TheVariants as request
use Rattle.table.specs.Orders.{word_order, value_order}
use Rattle.table.specs.Parts.{half}
use Rattle.table.specs.Writes.{carries, completes, request_at, request_in, requested}

-- the offsets whose writes complete a value of channel k, and of a group

abbrev pub own_offset : ℕ → Setting → ℕ
own_offset k (setting.Voltage v) = channel_begins k + 0x08 + 2
own_offset k (setting.Current v) = channel_begins k + 0x0C + 2
own_offset k (setting.VoltageBounds v) = channel_begins k + 0x18 + 2
own_offset k (setting.CurrentBounds v) = channel_begins k + 0x1C + 2

abbrev pub group_offset : Setting → ℕ
group_offset (setting.Voltage v) = 0x2A2
group_offset (setting.Current v) = 0x2A6
group_offset (setting.VoltageBounds v) = 0x2AA
group_offset (setting.CurrentBounds v) = 0x2AE

-- the offset whose write completes an order
abbrev pub order_offset : Order → ℕ
order_offset (order.ModuleControl v) = 0x02
order_offset (order.ClearModuleEvents v) = 0x04
order_offset (order.ModuleEventMask v) = 0x06
order_offset (order.ClearCollectedEvents v) = 0x08
order_offset (order.CollectedEventMask v) = 0x0A
order_offset (order.RampSpeed v) = 0x16
order_offset (order.ChannelControl k v) = channel_begins k + 0x02
order_offset (order.ClearChannelEvents k v) = channel_begins k + 0x04
order_offset (order.ChannelEventMask k v) = channel_begins k + 0x06
order_offset (order.ChannelSetting k x) = own_offset k x
order_offset (order.GroupSetting x) = group_offset x
order_offset (order.GroupEmergency d) = 0x2B2
order_offset (order.GroupSwitch d) = 0x2B6

-- what an order made of one word w holds
abbrev pub MadeOfWord : Order → ℕ → Type 0
MadeOfWord (order.ModuleControl v) w = v ≡ w
MadeOfWord (order.ClearModuleEvents v) w = Unit {0}
MadeOfWord (order.ModuleEventMask v) w = Unit {0}
MadeOfWord (order.ClearCollectedEvents v) w = Unit {0}
MadeOfWord (order.CollectedEventMask v) w = Unit {0}
MadeOfWord (order.RampSpeed v) w = Unit {0}
MadeOfWord (order.ChannelControl k v) w = v ≡ w
MadeOfWord (order.ClearChannelEvents k v) w = Unit {0}
MadeOfWord (order.ChannelEventMask k v) w = Unit {0}
MadeOfWord (order.ChannelSetting k x) w = ⊥
MadeOfWord (order.GroupSetting x) w = ⊥
MadeOfWord (order.GroupEmergency d) w = Unit {0}
MadeOfWord (order.GroupSwitch d) w = ⊥

-- a set voltage is the value of its two halves
abbrev pub MadeSetting : Setting → ℕ → ℕ → Type 0
MadeSetting (setting.Voltage v) u w = v ≡ value_of u w
MadeSetting (setting.Current v) u w = Unit {0}
MadeSetting (setting.VoltageBounds v) u w = Unit {0}
MadeSetting (setting.CurrentBounds v) u w = Unit {0}

-- what an order made of an upper half u and a lower half w holds
abbrev pub MadeOfHalves : Order → ℕ → ℕ → Type 0
MadeOfHalves (order.ModuleControl v) u w = ⊥
MadeOfHalves (order.ClearModuleEvents v) u w = Unit {0}
MadeOfHalves (order.ModuleEventMask v) u w = Unit {0}
MadeOfHalves (order.ClearCollectedEvents v) u w = Unit {0}
MadeOfHalves (order.CollectedEventMask v) u w = Unit {0}
MadeOfHalves (order.RampSpeed v) u w = Unit {0}
MadeOfHalves (order.ChannelControl k v) u w = ⊥
MadeOfHalves (order.ClearChannelEvents k v) u w = Unit {0}
MadeOfHalves (order.ChannelEventMask k v) u w = Unit {0}
MadeOfHalves (order.ChannelSetting k x) u w = MadeSetting x u w
MadeOfHalves (order.GroupSetting x) u w = MadeSetting x u w
MadeOfHalves (order.GroupEmergency d) u w = Unit {0}
MadeOfHalves (order.GroupSwitch d) u w = d ≡ u * 65536 + w

abbrev FromWord : Option Order → ℕ → ℕ → Type 0
FromWord None o w = Unit {0}
FromWord (Some x) o w = (o ≡ order_offset x) × MadeOfWord x w

abbrev FromHalf : Option Order → ℕ → ℕ → ℕ → Type 0
FromHalf None o u w = Unit {0}
FromHalf (Some x) o u w = (o ≡ order_offset x) × MadeOfHalves x u w

word_from : (r : WordRegister) (w : ℕ) → FromWord (word_order r w) (word_offset r) w
word_from (wr.Module mw.Status) w = tt
word_from (wr.Module mw.Control) w = (refl, refl)
word_from (wr.Module mw.EventStatus) w = (refl, tt)
word_from (wr.Module mw.EventMask) w = (refl, tt)
word_from (wr.Module mw.EventChannelStatus) w = (refl, tt)
word_from (wr.Module mw.EventChannelMask) w = (refl, tt)
word_from (wr.Module mw.PlacedChannels) w = tt
word_from (wr.Module mw.DeviceClass) w = tt
word_from (wr.Channel k cw.Status) w = tt
word_from (wr.Channel k cw.Control) w = (refl, refl)
word_from (wr.Channel k cw.EventStatus) w = (refl, tt)
word_from (wr.Channel k cw.EventMask) w = (refl, tt)

value_from : (r : ValueRegister) (u w : ℕ) → FromHalf (value_order r u w) (value_offset r + 2) u w
value_from (vr.Module mv.VoltageRampSpeed) u w = (refl, tt)
value_from (vr.Module mv.VoltageMax) u w = tt
value_from (vr.Module mv.CurrentMax) u w = tt
value_from (vr.Module mv.Temperature) u w = tt
value_from (vr.Channel k cv.VoltageSet) u w = (refl, refl)
value_from (vr.Channel k cv.CurrentSet) u w = (refl, tt)
value_from (vr.Channel k cv.VoltageMeasure) u w = tt
value_from (vr.Channel k cv.CurrentMeasure) u w = tt
value_from (vr.Channel k cv.VoltageBounds) u w = (refl, tt)
value_from (vr.Channel k cv.CurrentBounds) u w = (refl, tt)
value_from (vr.Channel k cv.VoltageNominal) u w = tt
value_from (vr.Channel k cv.CurrentNominal) u w = tt
value_from (vr.Group gv.Voltage) u w = (refl, refl)
value_from (vr.Group gv.Current) u w = (refl, tt)
value_from (vr.Group gv.VoltageBounds) u w = (refl, tt)
value_from (vr.Group gv.CurrentBounds) u w = (refl, tt)
value_from (vr.Group gv.Emergency) u w = (refl, tt)
value_from (vr.Group gv.OnOff) u w = (refl, refl)

-- the order x was asked for by a write of the word w at the offset o, with the half h held
pub data Source (h : Option Half) (o w : ℕ) (x : Order) : Type 0 where
  one_word : o ≡ order_offset x → MadeOfWord x w → Source h o w x
  two_halves : (u : ℕ) → h ≡ Some (half o u) → o ≡ order_offset x → MadeOfHalves x u w → Source h o w x

no_order : (f : ModuleFault) (x : Order) → Err f ≡ Ok (request.Carry x) → ⊥
no_order f x e = let z : ◌≡◌ {A = ℕ} 0 1 = cc in omega arith

module _ (h : Option Half) (o w : ℕ) (x : Order) where
  from_word : (y : Option Order) → FromWord y o w → carries o y ≡ Ok (request.Carry x) → Source h o w x
  from_word None f e = absurd (no_order (refusal_3 o) x e)
  from_word (Some y) f e = let same : y ≡ x = cc in subst (Source h o w) same (one_word f.0 f.1)

  from_half : (u : ℕ) → h ≡ Some (half o u) → (y : Option Order) → FromHalf y o u w → carries o y ≡ Ok (request.Carry x) → Source h o w x
  from_half u held None f e = absurd (no_order (refusal_3 o) x e)
  from_half u held (Some y) f e = let same : y ≡ x = cc in subst (Source h o w) same (two_halves u held f.0 f.1)

  from_held : (g : Option Half) → h ≡ g → (r : ValueRegister) → o ≡ value_offset r + 2 → completes g o (λ u. value_order r u w) ≡ Ok (request.Carry x) → Source h o w x
  from_held None is r at e = absurd (no_order (refusal_4 o) x e)
  from_held (Some kept) is r at e = by_test (eqb kept.awaited o) refl e
    where
      by_test : (b : Bool) → eqb kept.awaited o ≡ b → cond b (carries o (value_order r kept.word w)) (Err (refusal_4 o)) ≡ Ok (request.Carry x) → Source h o w x
      by_test true t e = from_half kept.word (is ∙ ap (λ (i : ℕ). Some (half i kept.word)) (eqb-true kept.awaited o t)) (value_order r kept.word w) (subst (λ (i : ℕ). FromHalf (value_order r kept.word w) i kept.word w) (sym at) (value_from r kept.word w)) e
      by_test false t e = absurd (no_order (refusal_4 o) x e)

  from_place : (p : Place) → o ≡ offset_of p → request_at h p o w ≡ Ok (request.Carry x) → Source h o w x
  from_place (place.Word r) at e = from_word (word_order r w) (subst (λ (i : ℕ). FromWord (word_order r w) i w) (sym at) (word_from r w)) e
  from_place (place.Upper r) at e = let z : ◌≡◌ {A = ℕ} 0 1 = cc in absurd (omega arith)
  from_place (place.Lower r) at e = from_held h refl r at e

  from_located : (n : ℕ) (y : Result Place ModuleFault) → located n o ≡ y → request_in h y o w ≡ Ok (request.Carry x) → Source h o w x
  from_located n (Err f) l e = absurd (no_order f x e)
  from_located n (Ok p) l e = by_right (writable p) e
    where
      by_right : (b : Bool) → cond b (request_at h p o w) (Err (refusal_3 o)) ≡ Ok (request.Carry x) → Source h o w x
      by_right true e = from_place p (map_stands.only n o p l) e
      by_right false e = absurd (no_order (refusal_3 o) x e)

pub source : (n : ℕ) (t : Table) (o w : ℕ) (x : Order) → requested n t o w ≡ Ok (request.Carry x) → Source t.held o w x
source n t o w x e = from_located t.held o w x n (located n o) refl e
