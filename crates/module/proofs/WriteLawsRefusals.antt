-- A refused write drops the held half, and with number 5 it notes the input error.
use Rattle.std.proofs.Common.{◌≡◌, ℕ, Ok, Err, Result, sym, refl, ap, ◌∙◌, subst, arith}
use Rattle.registers.specs.declared.fault.ModuleFault.{ModuleFault}
use Rattle.registers.specs.declared.place.Place.{Place}
use Rattle.registers.specs.Faults.{number}
use Rattle.registers.specs.Map.{located}
use Rattle.table.specs.declared.records.Table.{Table}
use Rattle.table.specs.declared.order.Order.{Order}
use Rattle.table.specs.declared.carrying.Drive.{Drive}
use Rattle.table.specs.declared.writing.Request.{Request}
use Rattle.table.specs.declared.writing.Request.TheVariants as request
use Rattle.table.specs.Carrying.{error_noted, carried, carried_answer}
use Rattle.table.specs.Orders.{Subject, subject_of}
use Rattle.table.specs.Writes.{collected, released, served_answer, request_in}
use Rattle.module.specs.State.{State, count, write_levels, done, write_state, write_answer}
use Rattle.module.specs.WriteLaws.{StandsAt, place_subject, RefusedChangesNothing}
use Rattle.module.proofs.WriteLawsHalves.{after}
use Rattle.module.proofs.WriteLawsRequests.{asked, AskedFor, NotFive, stands_for, located_not_five}
use Rattle.module.proofs.WriteLawsOrders.{Ended, obeys, bars, notes, ended}

abbrev numbered : Result (Unit {0}) ModuleFault → ℕ
numbered (Ok x) = 0
numbered (Err f) = number f

done_not_err : (f : ModuleFault) → ◌≡◌ {A = Result (Unit {0}) ModuleFault} (Ok tt) (Err f) → ⊥
done_not_err f e = let z : ◌≡◌ {A = ℕ} 0 1 = cc in omega arith

module _ (s : State) (o w : ℕ) (f : ModuleFault) where
  -- the state u is what a refusal with f leaves
  abbrev Left : State → Type 0
  Left u =
      (u.levels ≡ s.levels)
      × ((number f ≡ 5 → ⊥) → u.table ≡ collected (count s) (released s.table))
      × (number f ≡ 5 → (x : Subject) × StandsAt s o x × (u.table ≡ collected (count s) (error_noted (released s.table) x)))

  ended_left : (x : Order) → StandsAt s o (subject_of x) → (u : Table) (r : Result Drive ModuleFault) → Ended (count s) (released s.table) x o u r → done r ≡ Err f → Left (record { table = collected (count s) u; levels = write_levels s.levels r })
  ended_left x h u r (obeys a) e = absurd (done_not_err f e)
  ended_left x h u r bars e = (refl, λ _. refl, λ five. let six = ap numbered e in absurd (omega (arith, six)))
  ended_left x h u r notes e = (refl, λ other. absurd (other (sym (ap numbered e))), λ five. (subject_of x, h, refl))

  request_left : (x : Subject) → StandsAt s o x → (q : Result Request ModuleFault) → AskedFor x q → done (served_answer (count s) s.table o q) ≡ Err f → Left (after s o w q)
  request_left x h (Ok (request.Hold u)) a e = absurd (done_not_err f e)
  request_left x h (Ok (request.Carry y)) a e =
      ended_left y (subst (StandsAt s o) (sym a) h) (carried (count s) (released s.table) y) (carried_answer (count s) (released s.table) y o) (ended (count s) (released s.table) y o) e
  request_left x h (Err g) a e = (refl, λ _. refl, λ five. absurd (a (ap numbered e ∙ five)))

  nothing_left : (g : ModuleFault) → located (count s) o ≡ Err g → write_answer s o w ≡ Err f → Left (write_state s o w)
  nothing_left g here =
      let q : asked s o w ≡ Err g = ap (λ (y : Result Place ModuleFault). request_in s.table.held y o w) here in
      let other : NotFive (Err g) = subst NotFive here (located_not_five (count s) o) in
      let P : Result Request ModuleFault → Type 0 = λ y. done (served_answer (count s) s.table o y) ≡ Err f → Left (after s o w y) in
      subst P (sym q) (λ e. (refl, λ _. refl, λ five. absurd (other (ap numbered e ∙ five))))

  left : (x : Result Place ModuleFault) → located (count s) o ≡ x → write_answer s o w ≡ Err f → Left (write_state s o w)
  left (Ok p) here e =
      let h : StandsAt s o (place_subject p) = record { place = p; found = here; is = refl } in
      request_left (place_subject p) h (asked s o w) (stands_for s o w (place_subject p) h) e
  left (Err g) here e = nothing_left g here e

pub refused_changes_nothing : RefusedChangesNothing
refused_changes_nothing s o w f e =
    let l = left s o w f (located (count s) o) refl e in
    record {
      levels = l.0;
      table = l.1;
      noted = λ five. record { subject = (l.2 five).0; stands = (l.2 five).1; table = (l.2 five).2 };
    }
