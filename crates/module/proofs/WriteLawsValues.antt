-- A completed value is read back as its two halves.
use Rattle.std.proofs.Common.{◌≡◌, ℕ, ◌+◌, ◌*◌, ◌/◌, ◌%◌, ◌<◌, ◌≤◌, true, cond, not, T, eqb, length, Some, None, Ok, Err, Option, Result, sym, refl, ap, ◌∙◌, subst, arith}
use lib.Ieee.{Float, nan, inf, fin, binary32, to_bits, is_nan, le}
use lib.Ieee.Bits.{to_bits-of_bits}
use Rattle.std.proofs.lemmas.List.{get_or-set_same}
use Rattle.std.proofs.lemmas.Bool.{false≢true, and_parts, cond-true, eq-eqb}
use Rattle.values.specs.Model.{nominal_voltage, nominal_current}
use Rattle.values.specs.Ranges.{zero, lowest_speed, highest_speed, within}
use Rattle.values.specs.Words.{pattern, value_of}
use Rattle.registers.specs.declared.fault.ModuleFault.{ModuleFault}
use Rattle.registers.specs.declared.place.ModuleValue.TheVariants as mv
use Rattle.registers.specs.declared.place.ChannelValue.TheVariants as cv
use Rattle.registers.specs.declared.place.GroupValue.TheVariants as gv
use Rattle.registers.specs.declared.place.ValueRegister.{ValueRegister}
use Rattle.registers.specs.declared.place.ValueRegister.TheVariants as vr
use Rattle.registers.specs.declared.place.Place.{Place}
use Rattle.registers.specs.declared.place.Place.TheVariants as place
use Rattle.registers.specs.Faults.{refusal_3, refusal_4}
use Rattle.registers.specs.Map.{ValuePlaced, located}
use Rattle.registers.specs.Offsets.{value_offset}
use Rattle.registers.specs.Rights.{value_writable}
use Rattle.registers.proofs.Standing.{map_stands}
use Rattle.table.specs.declared.records.Channel.{Channel}
use Rattle.table.specs.declared.records.Table.{Table}
use Rattle.table.specs.declared.change.Change.{Change}
use Rattle.table.specs.declared.change.Change.TheVariants as change
use Rattle.table.specs.declared.setting.Setting.TheVariants as setting
use Rattle.table.specs.declared.order.Order.{Order}
use Rattle.table.specs.declared.carrying.Drive.{Drive}
use Rattle.table.specs.declared.writing.Request.{Request}
use Rattle.table.specs.declared.writing.Request.TheVariants as request
use Rattle.table.specs.Carrying.{changed_at, obeyed, admitted, carried, carried_answer}
use Rattle.table.specs.Changes.{changed}
use Rattle.table.specs.Orders.{quantity_of, value_order}
use Rattle.table.specs.Parts.{half}
use Rattle.table.specs.Reads.{channel_of, no_channel, bits_read, read_at, read_answer}
use Rattle.table.specs.Writes.{collected, released, carries, request_in, served_answer}
use Rattle.module.specs.State.{State, count, done, word_answer, write_state, write_answer}
use Rattle.module.specs.WriteLaws.{Whole, ReadsAs, ReadBack}
use Rattle.module.proofs.WriteLawsHalves.{after}
use Rattle.module.proofs.WriteLawsOrders.{Ended, obeys, bars, notes, ended}
use Rattle.module.proofs.WriteLawsOthers.{count_after}
use Rattle.module.proofs.WriteLawsRequests.{asked, upper_holds}

-- ---- an admitted value is a number, and its bits are those that were written

not_nan : (low x high : Float) → within low x high ≡ true → T (not (is_nan x))
unfolding is_nan le
not_nan low nan high e = absurd (false≢true (and_parts (le low nan) (le nan high) e).1)
not_nan low (inf s) high e = tt
not_nan low (fin s m d) high e = tt

pub bits_back : (u l : ℕ) (low high : Float) → u < 65536 → l < 65536 → within low (value_of u l) high ≡ true → to_bits binary32 (value_of u l) ≡ pattern u l
bits_back u l low high U L e = to_bits-of_bits binary32 (pattern u l) (omega arith) (not_nan low (value_of u l) high e)

-- ---- what the order of a value leaves at its register

within_12 : (n : ℕ) (r : ValueRegister) → n ≤ 12 → ValuePlaced n r → ValuePlaced 12 r
within_12 n (vr.Module r) few h = tt
within_12 n (vr.Channel k r) few h = omega arith
within_12 n (vr.Group r) few h = tt

module _ (n : ℕ) (t : Table) (u l : ℕ) (U : u < 65536) (L : l < 65536) (records : length t.channels ≡ 12) where
  abbrev Returns : ValueRegister → Option Order → Type 0
  Returns r None = Unit {0}
  Returns r (Some x) = admitted t.model (quantity_of x) ≡ true → bits_read (collected n (obeyed n t x)) r ≡ pattern u l

  volts_back : within zero (value_of u l) (nominal_voltage t.model) ≡ true → to_bits binary32 (value_of u l) ≡ pattern u l
  volts_back = bits_back u l zero (nominal_voltage t.model) U L

  amperes_back : within zero (value_of u l) (nominal_current t.model) ≡ true → to_bits binary32 (value_of u l) ≡ pattern u l
  amperes_back = bits_back u l zero (nominal_current t.model) U L

  -- what is read of channel k after its change
  changed_here : (k : ℕ) (x : Change) (f : Channel → ℕ) → k < 12 → f (channel_of (changed_at t k x) k) ≡ f (changed (channel_of t k) x)
  changed_here k x f h = ap f (get_or-set_same t.channels k (changed (channel_of t k) x) no_channel (omega arith))

  order_returns : (r : ValueRegister) → ValuePlaced 12 r → Returns r (value_order r u l)
  order_returns (vr.Module mv.VoltageRampSpeed) h = bits_back u l lowest_speed highest_speed U L
  order_returns (vr.Module mv.VoltageMax) h = tt
  order_returns (vr.Module mv.CurrentMax) h = tt
  order_returns (vr.Module mv.Temperature) h = tt
  order_returns (vr.Channel k cv.VoltageSet) h = λ a. changed_here k (change.Set (setting.Voltage (value_of u l))) (λ c. to_bits binary32 c.setpoint.voltage) h ∙ volts_back a
  order_returns (vr.Channel k cv.CurrentSet) h = λ a. changed_here k (change.Set (setting.Current (value_of u l))) (λ c. to_bits binary32 c.setpoint.current) h ∙ amperes_back a
  order_returns (vr.Channel k cv.VoltageMeasure) h = tt
  order_returns (vr.Channel k cv.CurrentMeasure) h = tt
  order_returns (vr.Channel k cv.VoltageBounds) h = λ a. changed_here k (change.Set (setting.VoltageBounds (value_of u l))) (λ c. to_bits binary32 c.bounds.voltage) h ∙ volts_back a
  order_returns (vr.Channel k cv.CurrentBounds) h = λ a. changed_here k (change.Set (setting.CurrentBounds (value_of u l))) (λ c. to_bits binary32 c.bounds.current) h ∙ amperes_back a
  order_returns (vr.Channel k cv.VoltageNominal) h = tt
  order_returns (vr.Channel k cv.CurrentNominal) h = tt
  order_returns (vr.Group gv.Voltage) h = volts_back
  order_returns (vr.Group gv.Current) h = amperes_back
  order_returns (vr.Group gv.VoltageBounds) h = volts_back
  order_returns (vr.Group gv.CurrentBounds) h = amperes_back
  order_returns (vr.Group gv.Emergency) h = λ a. refl
  order_returns (vr.Group gv.OnOff) h = λ a. refl

  -- the order y was accepted
  accepted : (r : ValueRegister) (o : ℕ) (y : Order) → Returns r (Some y) → (v : Table) (a : Result Drive ModuleFault) → Ended n t y o v a → done a ≡ Ok tt → bits_read (collected n v) r ≡ pattern u l
  accepted r o y h v a (obeys e) ok = h e
  accepted r o y h v a bars ok = let z : ◌≡◌ {A = ℕ} 0 1 = cc in absurd (omega arith)
  accepted r o y h v a notes ok = let z : ◌≡◌ {A = ℕ} 0 1 = cc in absurd (omega arith)

-- ---- the lower half l at o, in a state s that holds the upper half u for it

module _ (s : State) (r : ValueRegister) (u l : ℕ) (whole : Whole s) (here : ValuePlaced (count s) r) (right : value_writable r ≡ true) (U : u < 65536) (L : l < 65536) where
  abbrev o : ℕ
  o = value_offset r

  abbrev held : State
  held = after s o u (Ok (request.Hold (half (o + 2) u)))

  found_upper : located (count s) o ≡ Ok (place.Upper r)
  found_upper = map_stands.found (count s) (place.Upper r) whole.few here

  found_lower : located (count s) (o + 2) ≡ Ok (place.Lower r)
  found_lower = map_stands.found (count s) (place.Lower r) whole.few here

  asks : asked held (o + 2) l ≡ carries (o + 2) (value_order r u l)
  asks =
      ap (λ (x : Result Place ModuleFault). request_in (Some (half (o + 2) u)) x (o + 2) l) found_lower
      ∙ cond-true (value_writable r) (cond (eqb (o + 2) (o + 2)) (carries (o + 2) (value_order r u l)) (Err (refusal_4 (o + 2)))) (Err (refusal_3 (o + 2))) right
      ∙ cond-true (eqb (o + 2) (o + 2)) (carries (o + 2) (value_order r u l)) (Err (refusal_4 (o + 2))) (eq-eqb (o + 2) (o + 2) refl)

  abbrev Completes : Result Request ModuleFault → Type 0
  Completes q = done (served_answer (count s) held.table (o + 2) q) ≡ Ok tt → bits_read (after held (o + 2) l q).table r ≡ pattern u l

  by_order : (x : Option Order) → Returns (count s) (released held.table) u l U L whole.records r x → Completes (carries (o + 2) x)
  by_order None h e = let z : ◌≡◌ {A = ℕ} 0 1 = cc in absurd (omega arith)
  by_order (Some y) h e =
      accepted (count s) (released held.table) u l U L whole.records r (o + 2) y h (carried (count s) (released held.table) y) (carried_answer (count s) (released held.table) y (o + 2)) (ended (count s) (released held.table) y (o + 2)) e

  bits_after : Completes (asked held (o + 2) l)
  bits_after = subst Completes (sym asks) (by_order (value_order r u l) (order_returns (count s) (released held.table) u l U L whole.records r (within_12 (count s) r whole.few here)))

  -- what is read at a place of the same module
  read_at_lem : (p : ℕ) (x : Place) → located (count s) p ≡ Ok x → word_answer (write_state held (o + 2) l) p ≡ read_at (count s) (write_state held (o + 2) l).table (Ok x)
  read_at_lem p x e = ap (λ (n : ℕ). read_answer n (write_state held (o + 2) l).table p) (count_after held (o + 2) l) ∙ ap (read_at (count s) (write_state held (o + 2) l).table) e

  reads : write_answer held (o + 2) l ≡ Ok tt → ReadsAs (write_state held (o + 2) l) r u l
  reads ok =
      let b : bits_read (write_state held (o + 2) l).table r ≡ u * 65536 + l = bits_after ok in
      let up : (u * 65536 + l) / 65536 ≡ u = omega arith in
      let low : (u * 65536 + l) % 65536 ≡ l = omega arith in
      record {
        upper = read_at_lem o (place.Upper r) found_upper ∙ ap (λ (n : ℕ). Ok (n / 65536)) b ∙ ap Ok up;
        lower = read_at_lem (o + 2) (place.Lower r) found_lower ∙ ap (λ (n : ℕ). Ok (n % 65536)) b ∙ ap Ok low;
      }

  all_read : write_answer (write_state s o u) (o + 2) l ≡ Ok tt → ReadsAs (write_state (write_state s o u) (o + 2) l) r u l
  all_read =
      let P : State → Type 0 = λ x. write_answer x (o + 2) l ≡ Ok tt → ReadsAs (write_state x (o + 2) l) r u l in
      let e : write_state s o u ≡ held = ap (after s o u) (upper_holds s o u r (record { found = found_upper; writable = right })) in
      subst P (sym e) reads

pub read_back : ReadBack
read_back = all_read
