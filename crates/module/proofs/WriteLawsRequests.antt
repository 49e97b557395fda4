-- What a write asks for, told from the place where it is written.
use Rattle.std.proofs.Common.{◌≡◌, ℕ, ◌+◌, Bool, true, false, cond, eqb, Some, None, Ok, Err, Option, Result, sym, refl, ap, ◌∙◌, subst, arith}
use Rattle.std.proofs.lemmas.Bool.{cond-true}
use Rattle.registers.specs.declared.fault.ModuleFault.{ModuleFault}
use Rattle.registers.specs.declared.place.ModuleWord.TheVariants as mw
use Rattle.registers.specs.declared.place.ModuleValue.TheVariants as mv
use Rattle.registers.specs.declared.place.ChannelWord.TheVariants as cw
use Rattle.registers.specs.declared.place.ChannelValue.TheVariants as cv
use Rattle.registers.specs.declared.place.GroupValue.TheVariants as gv
use Rattle.registers.specs.declared.place.WordRegister.{WordRegister}
use Rattle.registers.specs.declared.place.WordRegister.TheVariants as wr
use Rattle.registers.specs.declared.place.ValueRegister.{ValueRegister}
use Rattle.registers.specs.declared.place.ValueRegister.TheVariants as vr
use Rattle.registers.specs.declared.place.Place.{Place}
use Rattle.registers.specs.declared.place.Place.TheVariants as place
use Rattle.registers.specs.Faults.{number, refusal_1, refusal_3, refusal_4}
use Rattle.registers.specs.Map.{outside, place_at, filled, located}
use Rattle.registers.specs.Rights.{writable, word_writable, value_writable}
use Rattle.table.specs.declared.records.Half.{Half}
use Rattle.table.specs.declared.order.Order.{Order}
use Rattle.table.specs.declared.writing.Request.{Request}
use Rattle.table.specs.declared.writing.Request.TheVariants as request
use Rattle.table.specs.Parts.{half}
use Rattle.table.specs.Orders.{Subject, subject_of, word_order, value_order}
use Rattle.table.specs.Writes.{carries, completes, request_at, request_in, requested}
use Rattle.module.specs.State.{State, count}
use Rattle.module.specs.WriteLaws.{StandsAt, UpperAt, word_subject, value_subject, place_subject}

abbrev pub asked : State → ℕ → ℕ → Result Request ModuleFault
asked s o w = requested (count s) s.table o w

-- ---- an upper half

pub upper_holds : (s : State) (o w : ℕ) (r : ValueRegister) → UpperAt s o r → asked s o w ≡ Ok (request.Hold (half (o + 2) w))
upper_holds s o w r h =
    ap (λ (x : Result Place ModuleFault). request_in s.table.held x o w) h.found
    ∙ cond-true (value_writable r) (Ok (request.Hold (half (o + 2) w))) (Err (refusal_3 o)) h.writable

-- what asks for something else than to hold
abbrev NoHold : Result Request ModuleFault → Type 0
NoHold q = (h : Half) → q ≡ Ok (request.Hold h) → ⊥

refusal_no_hold : (f : ModuleFault) → NoHold (Err f)
refusal_no_hold f h e = let z : ◌≡◌ {A = ℕ} 0 1 = cc in omega arith

if_no_hold : (b : Bool) (q : Result Request ModuleFault) (f : ModuleFault) → NoHold q → NoHold (cond b q (Err f))
if_no_hold true q f h = h
if_no_hold false q f h = refusal_no_hold f

carries_no_hold : (o : ℕ) (x : Option Order) → NoHold (carries o x)
carries_no_hold o None = refusal_no_hold (refusal_3 o)
carries_no_hold o (Some x) = λ h e. let z : ◌≡◌ {A = ℕ} 0 1 = cc in omega arith

completes_no_hold : (h : Option Half) (o : ℕ) (x : ℕ → Option Order) → NoHold (completes h o x)
completes_no_hold None o x = refusal_no_hold (refusal_4 o)
completes_no_hold (Some h) o x = if_no_hold (eqb h.awaited o) (carries o (x h.word)) (refusal_4 o) (carries_no_hold o (x h.word))

module _ (s : State) (o w : ℕ) (none : (r : ValueRegister) → UpperAt s o r → ⊥) where
  by_place : (p : Place) → located (count s) o ≡ Ok p → NoHold (cond (writable p) (request_at s.table.held p o w) (Err (refusal_3 o)))
  by_place (place.Word r) e = if_no_hold (word_writable r) _ (refusal_3 o) (carries_no_hold o (word_order r w))
  by_place (place.Lower r) e = if_no_hold (value_writable r) _ (refusal_3 o) (completes_no_hold s.table.held o (λ u. value_order r u w))
  by_place (place.Upper r) e = by_right (value_writable r) refl
    where
      by_right : (b : Bool) → value_writable r ≡ b → NoHold (cond b (Ok (request.Hold (half (o + 2) w))) (Err (refusal_3 o)))
      by_right true t = λ h _. none r (record { found = e; writable = t })
      by_right false t = refusal_no_hold (refusal_3 o)

  by_located : (x : Result Place ModuleFault) → located (count s) o ≡ x → NoHold (request_in s.table.held x o w)
  by_located (Ok p) e = by_place p e
  by_located (Err f) e = refusal_no_hold f

  pub other_no_hold : NoHold (asked s o w)
  other_no_hold = by_located (located (count s) o) refl

-- what holds no half but the upper half w written at o
abbrev pub HoldsOwn : ℕ → ℕ → Result Request ModuleFault → Type 0
HoldsOwn o w (Ok (request.Hold h)) = h ≡ half (o + 2) w
HoldsOwn o w (Ok (request.Carry x)) = Unit {0}
HoldsOwn o w (Err f) = Unit {0}

if_own : (o w : ℕ) (b : Bool) (q : Result Request ModuleFault) (f : ModuleFault) → HoldsOwn o w q → HoldsOwn o w (cond b q (Err f))
if_own o w true q f h = h
if_own o w false q f h = tt

carries_own : (o w : ℕ) (x : Option Order) → HoldsOwn o w (carries o x)
carries_own o w None = tt
carries_own o w (Some x) = tt

request_own : (g : Option Half) (p : Place) (o w : ℕ) → HoldsOwn o w (request_at g p o w)
request_own g (place.Word r) o w = carries_own o w (word_order r w)
request_own g (place.Upper r) o w = refl
request_own None (place.Lower r) o w = tt
request_own (Some h) (place.Lower r) o w = if_own o w (eqb h.awaited o) _ (refusal_4 o) (carries_own o w (value_order r h.word w))

located_own : (g : Option Half) (x : Result Place ModuleFault) (o w : ℕ) → HoldsOwn o w (request_in g x o w)
located_own g (Ok p) o w = if_own o w (writable p) _ (refusal_3 o) (request_own g p o w)
located_own g (Err f) o w = tt

pub asked_own : (s : State) (o w : ℕ) → HoldsOwn o w (asked s o w)
asked_own s o w = located_own s.table.held (located (count s) o) o w

-- ---- what the order is for

-- an order is for x; what is refused before there is an order has another number than 5
abbrev pub AskedFor : Subject → Result Request ModuleFault → Type 0
AskedFor x (Ok (request.Hold u)) = Unit {0}
AskedFor x (Ok (request.Carry y)) = subject_of y ≡ x
AskedFor x (Err f) = number f ≡ 5 → ⊥

abbrev OrderFor : Subject → Option Order → Type 0
OrderFor x None = Unit {0}
OrderFor x (Some y) = subject_of y ≡ x

word_for : (r : WordRegister) (w : ℕ) → OrderFor (word_subject r) (word_order r w)
word_for (wr.Module mw.Status) w = tt
word_for (wr.Module mw.Control) w = refl
word_for (wr.Module mw.EventStatus) w = refl
word_for (wr.Module mw.EventMask) w = refl
word_for (wr.Module mw.EventChannelStatus) w = refl
word_for (wr.Module mw.EventChannelMask) w = refl
word_for (wr.Module mw.PlacedChannels) w = tt
word_for (wr.Module mw.DeviceClass) w = tt
word_for (wr.Channel k cw.Status) w = tt
word_for (wr.Channel k cw.Control) w = refl
word_for (wr.Channel k cw.EventStatus) w = refl
word_for (wr.Channel k cw.EventMask) w = refl

value_for : (r : ValueRegister) (u l : ℕ) → OrderFor (value_subject r) (value_order r u l)
value_for (vr.Module mv.VoltageRampSpeed) u l = refl
value_for (vr.Module mv.VoltageMax) u l = tt
value_for (vr.Module mv.CurrentMax) u l = tt
value_for (vr.Module mv.Temperature) u l = tt
value_for (vr.Channel k cv.VoltageSet) u l = refl
value_for (vr.Channel k cv.CurrentSet) u l = refl
value_for (vr.Channel k cv.VoltageMeasure) u l = tt
value_for (vr.Channel k cv.CurrentMeasure) u l = tt
value_for (vr.Channel k cv.VoltageBounds) u l = refl
value_for (vr.Channel k cv.CurrentBounds) u l = refl
value_for (vr.Channel k cv.VoltageNominal) u l = tt
value_for (vr.Channel k cv.CurrentNominal) u l = tt
value_for (vr.Group gv.Voltage) u l = refl
value_for (vr.Group gv.Current) u l = refl
value_for (vr.Group gv.VoltageBounds) u l = refl
value_for (vr.Group gv.CurrentBounds) u l = refl
value_for (vr.Group gv.Emergency) u l = refl
value_for (vr.Group gv.OnOff) u l = refl

if_for : (x : Subject) (b : Bool) (q : Result Request ModuleFault) (f : ModuleFault) → AskedFor x q → (number f ≡ 5 → ⊥) → AskedFor x (cond b q (Err f))
if_for x true q f h n = h
if_for x false q f h n = n

carries_for : (x : Subject) (o : ℕ) (y : Option Order) → OrderFor x y → AskedFor x (carries o y)
carries_for x o None h = λ e. omega arith
carries_for x o (Some y) h = h

completes_for : (x : Subject) (h : Option Half) (o : ℕ) (y : ℕ → Option Order) → ((u : ℕ) → OrderFor x (y u)) → AskedFor x (completes h o y)
completes_for x None o y k = λ e. omega arith
completes_for x (Some h) o y k = if_for x (eqb h.awaited o) (carries o (y h.word)) (refusal_4 o) (carries_for x o (y h.word) (k h.word)) (λ e. omega arith)

request_for : (h : Option Half) (p : Place) (o w : ℕ) → AskedFor (place_subject p) (request_at h p o w)
request_for h (place.Word r) o w = carries_for (word_subject r) o (word_order r w) (word_for r w)
request_for h (place.Upper r) o w = tt
request_for h (place.Lower r) o w = completes_for (value_subject r) h o (λ u. value_order r u w) (λ u. value_for r u w)

-- a write at a place is for what the place is for
place_for : (h : Option Half) (p : Place) (o w : ℕ) → AskedFor (place_subject p) (request_in h (Ok p) o w)
place_for h p o w = if_for (place_subject p) (writable p) (request_at h p o w) (refusal_3 o) (request_for h p o w) (λ e. omega arith)

pub stands_for : (s : State) (o w : ℕ) (x : Subject) → StandsAt s o x → AskedFor x (asked s o w)
stands_for s o w x h =
    let e : asked s o w ≡ request_in s.table.held (Ok h.place) o w = ap (λ (y : Result Place ModuleFault). request_in s.table.held y o w) h.found in
    subst (AskedFor x) (sym e) (subst (λ (y : Subject). AskedFor y (request_in s.table.held (Ok h.place) o w)) h.is (place_for s.table.held h.place o w))

-- an offset where nothing stands is not refused with 5
abbrev pub NotFive : Result Place ModuleFault → Type 0
NotFive (Ok p) = Unit {0}
NotFive (Err f) = number f ≡ 5 → ⊥

filled_not_five : (o : ℕ) (x : Option Place) → NotFive (filled o x)
filled_not_five o None = λ e. omega arith
filled_not_five o (Some p) = tt

if_not_five : (b : Bool) (o : ℕ) (x : Result Place ModuleFault) → NotFive x → NotFive (cond b (Err (refusal_1 o)) x)
if_not_five true o x h = λ e. omega arith
if_not_five false o x h = h

pub located_not_five : (n o : ℕ) → NotFive (located n o)
located_not_five n o = if_not_five (outside o) o (filled o (place_at n o)) (filled_not_five o (place_at n o))
