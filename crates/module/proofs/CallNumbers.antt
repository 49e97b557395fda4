-- Reads are refused with 1 or 2, writes with 1 to 6, rounds with 7.
use Rattle.std.proofs.Common.{ℕ, Bool, true, false, cond, eqb, Some, None, Ok, Err, Option, Result, arith}
use Rattle.registers.specs.declared.fault.ModuleFault.{ModuleFault}
use Rattle.registers.specs.declared.place.Place.{Place}
use Rattle.registers.specs.declared.place.Place.TheVariants as place
use Rattle.registers.specs.Faults.{refusal_1}
use Rattle.registers.specs.Map.{outside, place_at, filled, located}
use Rattle.registers.specs.Rights.{writable}
use Rattle.table.specs.declared.records.Half.{Half}
use Rattle.table.specs.declared.records.Table.{Table}
use Rattle.table.specs.declared.carrying.Drive.{Drive}
use Rattle.table.specs.declared.order.Order.{Order}
use Rattle.table.specs.declared.writing.Request.{Request}
use Rattle.table.specs.declared.writing.Request.TheVariants as request
use Rattle.table.specs.Carrying.{admitted, blocked_switch, carried_answer}
use Rattle.table.specs.Orders.{subject_of, quantity_of, switching_of, word_order, value_order}
use Rattle.table.specs.Reads.{read_at}
use Rattle.table.specs.Writes.{carries, completes, request_at, request_in, requested, released, served_answer}
use Rattle.module.specs.CallNumbers.{Numbers, CallNumbers}
use Rattle.module.specs.State.{count, done}
use Rattle.module.specs.Rounds.{one_each}

-- the answer is x if the test passes, else y
either : {A : Type 0} (b : Bool) (x y : Result A ModuleFault) (first last : ℕ) → Numbers first last x → Numbers first last y → Numbers first last (cond b x y)
either true x y first last h k = h
either false x y first last h k = k

of_filled : (o : ℕ) (x : Option Place) → Numbers 1 6 (filled o x)
of_filled o None = (omega arith, omega arith)
of_filled o (Some p) = tt

of_read : (n : ℕ) (t : Table) (o : ℕ) (b : Bool) (x : Option Place) → Numbers 1 2 (read_at n t (cond b (Err (refusal_1 o)) (filled o x)))
of_read n t o true x = (omega arith, omega arith)
of_read n t o false None = (omega arith, omega arith)
of_read n t o false (Some p) = tt

of_carries : (o : ℕ) (x : Option Order) → Numbers 1 6 (carries o x)
of_carries o None = (omega arith, omega arith)
of_carries o (Some x) = tt

of_completes : (h : Option Half) (o : ℕ) (x : ℕ → Option Order) → Numbers 1 6 (completes h o x)
of_completes None o x = (omega arith, omega arith)
of_completes (Some h) o x = either (eqb h.awaited o) _ _ 1 6 (of_carries o (x h.word)) (omega arith, omega arith)

of_place : (h : Option Half) (p : Place) (o w : ℕ) → Numbers 1 6 (request_at h p o w)
of_place h (place.Word r) o w = of_carries o (word_order r w)
of_place h (place.Upper r) o w = tt
of_place h (place.Lower r) o w = of_completes h o (λ u. value_order r u w)

of_located : (h : Option Half) (x : Result Place ModuleFault) (o w : ℕ) → Numbers 1 6 x → Numbers 1 6 (request_in h x o w)
of_located h (Ok p) o w k = either (writable p) _ _ 1 6 (of_place h p o w) (omega arith, omega arith)
of_located h (Err f) o w k = k

of_request : (n : ℕ) (t : Table) (o w : ℕ) → Numbers 1 6 (requested n t o w)
of_request n t o w = of_located t.held (located n o) o w (either (outside o) _ _ 1 6 (omega arith, omega arith) (of_filled o (place_at n o)))

of_order : (n : ℕ) (t : Table) (x : Order) (o : ℕ) → Numbers 1 6 (carried_answer n t x o)
of_order n t x o =
    either (admitted t.model (quantity_of x)) _ _ 1 6
    (either (blocked_switch n t (subject_of x) (switching_of x)) _ _ 1 6 (omega arith, omega arith) tt)
    (omega arith, omega arith)

of_served : (n : ℕ) (t : Table) (o : ℕ) (q : Result Request ModuleFault) → Numbers 1 6 q → Numbers 1 6 (served_answer n t o q)
of_served n t o (Ok (request.Hold u)) h = tt
of_served n t o (Ok (request.Carry x)) h = of_order n (released t) x o
of_served n t o (Err f) h = h

of_done : (r : Result Drive ModuleFault) → Numbers 1 6 r → Numbers 1 6 (done r)
of_done (Ok d) h = tt
of_done (Err f) h = h

pub call_numbers : CallNumbers
call_numbers = record {
  reads = λ s o. of_read (count s) s.table o (outside o) (place_at (count s) o);
  writes = λ s o w. of_done _ (of_served (count s) s.table o (requested (count s) s.table o w) (of_request (count s) s.table o w));
  rounds = λ s rs. either (one_each s rs) _ _ 7 7 tt (omega arith, omega arith);
}
