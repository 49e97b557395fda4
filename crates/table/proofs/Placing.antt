-- The channel of a written answer is placed.
use Rattle.std.proofs.Common.{ℕ, ◌<◌, ltb, cond, eqb, List, [], ◌∷◌, Some, None, Ok, Err, Option, Result, rules}
use Rattle.std.specs.Result.{IfOk}
use Rattle.std.proofs.lemmas.Bool.{ltb-true, cond_both}
use Rattle.registers.specs.declared.fault.ModuleFault.{ModuleFault}
use Rattle.registers.specs.declared.place.ChannelWord.TheVariants as cw
use Rattle.registers.specs.declared.place.ChannelValue.TheVariants as cv
use Rattle.registers.specs.declared.place.GroupValue.TheVariants as gv
use Rattle.registers.specs.declared.place.ModuleWord.TheVariants as mw
use Rattle.registers.specs.declared.place.ModuleValue.TheVariants as mv
use Rattle.registers.specs.declared.place.WordRegister.{WordRegister}
use Rattle.registers.specs.declared.place.WordRegister.TheVariants as wr
use Rattle.registers.specs.declared.place.ValueRegister.{ValueRegister}
use Rattle.registers.specs.declared.place.ValueRegister.TheVariants as vr
use Rattle.registers.specs.declared.place.Place.{Place}
use Rattle.registers.specs.declared.place.Place.TheVariants as place
use Rattle.registers.specs.Faults.{refusal_1, refusal_3, refusal_4, refusal_5, refusal_6}
use Rattle.registers.specs.Map.{Row, stands_in, module_rows, channel_rows, group_rows, channel_at, within_channel, place_at, outside, filled, located, WordPlaced, ValuePlaced, Placed, SomePlaced}
use Rattle.registers.specs.Rights.{writable}
use Rattle.table.specs.declared.records.Half.{Half}
use Rattle.table.specs.declared.records.Table.{Table}
use Rattle.table.specs.declared.order.Order.{Order}
use Rattle.table.specs.declared.carrying.Drive.{Drive}
use Rattle.table.specs.declared.writing.Request.{Request}
use Rattle.table.specs.declared.writing.Request.TheVariants as request
use Rattle.table.specs.Carrying.{admitted, blocked_switch, drive_of, DrivePlaced, carried_answer}
use Rattle.table.specs.Orders.{Subject, of_module, of_channel, of_all, subject_of, quantity_of, Switching, unswitched, turned_on, emergency, switching_of, word_order, value_order}
use Rattle.table.specs.Writes.{carries, request_at, request_in, requested, released, served_answer, written_answer}

-- ---- what stands at an offset

abbrev RowsPlaced : ℕ → List Row → Type 0
RowsPlaced n [] = Unit {0}
RowsPlaced n (r ∷ rs) = Placed n r.stands × RowsPlaced n rs

stands_placed : (n : ℕ) (rs : List Row) (o : ℕ) → RowsPlaced n rs → SomePlaced n (stands_in rs o)
stands_placed n [] o h = tt
stands_placed n (r ∷ rs) o h = cond_both (eqb o r.offset) (Some r.stands) (stands_in rs o) (SomePlaced n) (λ t. h.0) (λ f. stands_placed n rs o h.1)

module_placed : (n : ℕ) → RowsPlaced n module_rows
module_placed n = search rules

channel_placed : (n k : ℕ) → k < n → RowsPlaced n (channel_rows k)
channel_placed n k h = search rules

group_placed : (n : ℕ) → RowsPlaced n group_rows
group_placed n = search rules

module _ (n o : ℕ) where
  at_channel : SomePlaced n (cond (ltb (channel_at o) n) (stands_in (channel_rows (channel_at o)) (within_channel o)) None)
  at_channel =
      cond_both (ltb (channel_at o) n) (stands_in (channel_rows (channel_at o)) (within_channel o)) None (SomePlaced n)
      (λ t. stands_placed n (channel_rows (channel_at o)) (within_channel o) (channel_placed n (channel_at o) (ltb-true (channel_at o) n t)))
      (λ f. tt)

  at_place : SomePlaced n (place_at n o)
  at_place =
      cond_both (ltb o 0x60) _ _ (SomePlaced n) (λ t. stands_placed n module_rows o (module_placed n))
      (λ f. cond_both (ltb o 0x2A0) _ _ (SomePlaced n) (λ t. at_channel) (λ f. stands_placed n group_rows o (group_placed n)))

  filled_placed : (x : Option Place) → SomePlaced n x → IfOk (filled o x) (Placed n)
  filled_placed None h = tt
  filled_placed (Some p) h = h

  located_placed : IfOk (located n o) (Placed n)
  located_placed = cond_both (outside o) (Err (refusal_1 o)) (filled o (place_at n o)) (λ (r : Result Place ModuleFault). IfOk r (Placed n)) (λ t. tt) (λ f. filled_placed (place_at n o) at_place)

-- ---- what a write asks for

abbrev SubjectPlaced : ℕ → Subject → Type 0
SubjectPlaced n of_module = Unit {0}
SubjectPlaced n (of_channel k) = k < n
SubjectPlaced n of_all = Unit {0}

abbrev OrderPlaced : ℕ → Option Order → Type 0
OrderPlaced n None = Unit {0}
OrderPlaced n (Some x) = SubjectPlaced n (subject_of x)

abbrev RequestPlaced : ℕ → Result Request ModuleFault → Type 0
RequestPlaced n (Ok (request.Hold h)) = Unit {0}
RequestPlaced n (Ok (request.Carry x)) = SubjectPlaced n (subject_of x)
RequestPlaced n (Err f) = Unit {0}

word_placed : (n : ℕ) (r : WordRegister) (w : ℕ) → WordPlaced n r → OrderPlaced n (word_order r w)
word_placed n (wr.Module mw.Status) w h = tt
word_placed n (wr.Module mw.Control) w h = tt
word_placed n (wr.Module mw.EventStatus) w h = tt
word_placed n (wr.Module mw.EventMask) w h = tt
word_placed n (wr.Module mw.EventChannelStatus) w h = tt
word_placed n (wr.Module mw.EventChannelMask) w h = tt
word_placed n (wr.Module mw.PlacedChannels) w h = tt
word_placed n (wr.Module mw.DeviceClass) w h = tt
word_placed n (wr.Channel k cw.Status) w h = tt
word_placed n (wr.Channel k cw.Control) w h = h
word_placed n (wr.Channel k cw.EventStatus) w h = h
word_placed n (wr.Channel k cw.EventMask) w h = h

value_placed : (n : ℕ) (r : ValueRegister) (u l : ℕ) → ValuePlaced n r → OrderPlaced n (value_order r u l)
value_placed n (vr.Module mv.VoltageRampSpeed) u l h = tt
value_placed n (vr.Module mv.VoltageMax) u l h = tt
value_placed n (vr.Module mv.CurrentMax) u l h = tt
value_placed n (vr.Module mv.Temperature) u l h = tt
value_placed n (vr.Channel k cv.VoltageSet) u l h = h
value_placed n (vr.Channel k cv.CurrentSet) u l h = h
value_placed n (vr.Channel k cv.VoltageMeasure) u l h = tt
value_placed n (vr.Channel k cv.CurrentMeasure) u l h = tt
value_placed n (vr.Channel k cv.VoltageBounds) u l h = h
value_placed n (vr.Channel k cv.CurrentBounds) u l h = h
value_placed n (vr.Channel k cv.VoltageNominal) u l h = tt
value_placed n (vr.Channel k cv.CurrentNominal) u l h = tt
value_placed n (vr.Group gv.Voltage) u l h = tt
value_placed n (vr.Group gv.Current) u l h = tt
value_placed n (vr.Group gv.VoltageBounds) u l h = tt
value_placed n (vr.Group gv.CurrentBounds) u l h = tt
value_placed n (vr.Group gv.Emergency) u l h = tt
value_placed n (vr.Group gv.OnOff) u l h = tt

module _ (n o w : ℕ) where
  carries_placed : (x : Option Order) → OrderPlaced n x → RequestPlaced n (carries o x)
  carries_placed None h = tt
  carries_placed (Some x) h = h

  request_placed : (g : Option Half) (p : Place) → Placed n p → RequestPlaced n (request_at g p o w)
  request_placed g (place.Word r) h = carries_placed (word_order r w) (word_placed n r w h)
  request_placed g (place.Upper r) h = tt
  request_placed None (place.Lower r) h = tt
  request_placed (Some half) (place.Lower r) h =
      cond_both (eqb half.awaited o) (carries o (value_order r half.word w)) (Err (refusal_4 o)) (RequestPlaced n)
      (λ t. carries_placed (value_order r half.word w) (value_placed n r half.word w h)) (λ f. tt)

  requested_placed : (g : Option Half) (x : Result Place ModuleFault) → IfOk x (Placed n) → RequestPlaced n (request_in g x o w)
  requested_placed g (Ok p) h = cond_both (writable p) (request_at g p o w) (Err (refusal_3 o)) (RequestPlaced n) (λ t. request_placed g p h) (λ f. tt)
  requested_placed g (Err f) h = tt

-- ---- what is driven

drive_placed : (n : ℕ) (x : Subject) (s : Switching) → SubjectPlaced n x → DrivePlaced n (drive_of x s)
drive_placed n of_module s h = tt
drive_placed n (of_channel k) unswitched h = tt
drive_placed n (of_channel k) turned_on h = tt
drive_placed n (of_channel k) emergency h = h
drive_placed n of_all unswitched h = tt
drive_placed n of_all turned_on h = tt
drive_placed n of_all emergency h = tt

carried_placed : (n : ℕ) (t : Table) (x : Order) (o : ℕ) → SubjectPlaced n (subject_of x) → IfOk (carried_answer n t x o) (DrivePlaced n)
carried_placed n t x o h =
    let P : Result Drive ModuleFault → Type 0 = λ r. IfOk r (DrivePlaced n) in
    cond_both (admitted t.model (quantity_of x)) _ (Err (refusal_5 o)) P
    (λ y. cond_both (blocked_switch n t (subject_of x) (switching_of x)) (Err (refusal_6 o)) _ P (λ b. tt) (λ f. drive_placed n (subject_of x) (switching_of x) h))
    (λ f. tt)

served_placed : (n : ℕ) (t : Table) (o : ℕ) (q : Result Request ModuleFault) → RequestPlaced n q → IfOk (served_answer n t o q) (DrivePlaced n)
served_placed n t o (Ok (request.Hold h)) p = tt
served_placed n t o (Ok (request.Carry x)) p = carried_placed n (released t) x o p
served_placed n t o (Err f) p = tt

pub answer_placed : (n : ℕ) (t : Table) (o w : ℕ) → IfOk (written_answer n t o w) (DrivePlaced n)
answer_placed n t o w = served_placed n t o (requested n t o w) (requested_placed n o w t.held (located n o) (located_placed n o))
