-- A write to a register of one channel leaves each other channel as it was.
use Rattle.std.proofs.Common.{◌≡◌, ℕ, ◌/◌, ◌%◌, List, length, get_or, Ok, Err, Result, sym, refl, ap, ◌∙◌, subst, arith}
use Rattle.std.proofs.lemmas.List.{length-set, length-replicate, get_or-set_other}
use Rattle.registers.specs.declared.fault.ModuleFault.{ModuleFault}
use Rattle.registers.specs.declared.place.WordRegister.TheVariants as wr
use Rattle.registers.specs.declared.place.ValueRegister.{ValueRegister}
use Rattle.registers.specs.declared.place.ValueRegister.TheVariants as vr
use Rattle.registers.specs.declared.place.Place.{Place}
use Rattle.registers.specs.declared.place.Place.TheVariants as place
use Rattle.table.specs.declared.records.Table.{Table}
use Rattle.table.specs.declared.order.Order.{Order}
use Rattle.table.specs.declared.carrying.Drive.{Drive}
use Rattle.table.specs.declared.carrying.Drive.TheVariants as drive
use Rattle.table.specs.declared.writing.Request.{Request}
use Rattle.table.specs.declared.writing.Request.TheVariants as request
use Rattle.table.specs.Carrying.{drive_of, carried_answer}
use Rattle.table.specs.Orders.{Subject, of_module, of_channel, of_all, subject_of, Switching, unswitched, turned_on, emergency}
use Rattle.table.specs.Reads.{channel_of, bits_read, place_read, read_at, read_answer}
use Rattle.table.specs.Words.{channel_word, channel_bits}
use Rattle.table.specs.Writes.{released, written_answer}
use Rattle.module.specs.State.{State, count, driven_by, write_levels, write_state}
use Rattle.module.specs.WriteLaws.{value_subject, place_subject, OthersUntouched}
use Rattle.module.proofs.WriteLawsHalves.{after}
use Rattle.module.proofs.WriteLawsRequests.{asked, AskedFor, stands_for}
use Rattle.module.proofs.WriteLawsOrders.{Apart, Ended, obeys, bars, notes, ended, carried_within}

-- ---- the levels

driven_length : (ls : List ℕ) (d : Drive) → length (driven_by ls d) ≡ length ls
driven_length ls drive.Nothing = refl
driven_length ls (drive.ToZero k) = length-set ls k 0
driven_length ls drive.AllToZero = length-replicate (length ls) 0

pub levels_length : (ls : List ℕ) (r : Result Drive ModuleFault) → length (write_levels ls r) ≡ length ls
levels_length ls (Ok d) = driven_length ls d
levels_length ls (Err f) = refl

drive_other : (ls : List ℕ) (j : ℕ) (x : Subject) (y : Switching) → Apart x j → get_or (driven_by ls (drive_of x y)) j 0 ≡ get_or ls j 0
drive_other ls j of_module y a = absurd a
drive_other ls j (of_channel k) unswitched a = refl
drive_other ls j (of_channel k) turned_on a = refl
drive_other ls j (of_channel k) emergency a = get_or-set_other ls k j 0 0 a
drive_other ls j of_all y a = absurd a

ended_level : (n : ℕ) (t : Table) (x : Order) (o : ℕ) (u : Table) (r : Result Drive ModuleFault) → Ended n t x o u r → (ls : List ℕ) (j : ℕ) → Apart (subject_of x) j → get_or (write_levels ls r) j 0 ≡ get_or ls j 0
ended_level n t x o u r (obeys e) ls j a = drive_other ls j (subject_of x) _ a
ended_level n t x o u r bars ls j a = refl
ended_level n t x o u r notes ls j a = refl

-- ---- the words of channel j, in a table u with its record and its model

module _ (n : ℕ) (t u : Table) (j : ℕ) (model : u.model ≡ t.model) (records : channel_of u j ≡ channel_of t j) where
  at_same : (k : ℕ) → of_channel k ≡ of_channel j → channel_of u k ≡ channel_of t k
  at_same k e = let same : k ≡ j = cc in subst (λ (i : ℕ). channel_of u i ≡ channel_of t i) (sym same) records

  bits_same : (r : ValueRegister) → value_subject r ≡ of_channel j → bits_read u r ≡ bits_read t r
  bits_same (vr.Module r) e = let z : ◌≡◌ {A = ℕ} 0 1 = cc in absurd (omega arith)
  bits_same (vr.Channel k r) e = λ i. channel_bits (model i) (at_same k e i) r
  bits_same (vr.Group r) e = let z : ◌≡◌ {A = ℕ} 0 1 = cc in absurd (omega arith)

  place_same : (p : Place) → place_subject p ≡ of_channel j → place_read n u p ≡ place_read n t p
  place_same (place.Word (wr.Module r)) e = let z : ◌≡◌ {A = ℕ} 0 1 = cc in absurd (omega arith)
  place_same (place.Word (wr.Channel k r)) e = λ i. channel_word (at_same k e i) r
  place_same (place.Upper r) e = ap (λ (b : ℕ). b / 65536) (bits_same r e)
  place_same (place.Lower r) e = ap (λ (b : ℕ). b % 65536) (bits_same r e)

-- ---- a write that asks for q, for x, and another channel j

module _ (s : State) (o w j : ℕ) (x : Subject) (apart : Apart x j) where
  order_apart : (y : Order) → subject_of y ≡ x → Apart (subject_of y) j
  order_apart y e = subst (λ (z : Subject). Apart z j) (sym e) apart

  after_record : (q : Result Request ModuleFault) → AskedFor x q → channel_of (after s o w q).table j ≡ channel_of s.table j
  after_record (Ok (request.Hold u)) h = refl
  after_record (Ok (request.Carry y)) h = (carried_within (count s) (released s.table) y).other j (order_apart y h)
  after_record (Err f) h = refl

  after_level : (q : Result Request ModuleFault) → AskedFor x q → get_or (after s o w q).levels j 0 ≡ get_or s.levels j 0
  after_level (Ok (request.Hold u)) h = refl
  after_level (Ok (request.Carry y)) h = ended_level (count s) (released s.table) y o _ (carried_answer (count s) (released s.table) y o) (ended (count s) (released s.table) y o) s.levels j (order_apart y h)
  after_level (Err f) h = refl

after_model : (s : State) (o w : ℕ) (q : Result Request ModuleFault) → (after s o w q).table.model ≡ s.table.model
after_model s o w (Ok (request.Hold u)) = refl
after_model s o w (Ok (request.Carry y)) = (carried_within (count s) (released s.table) y).kept.1
after_model s o w (Err f) = refl

-- the write keeps the count
pub count_after : (s : State) (o w : ℕ) → count (write_state s o w) ≡ count s
count_after s o w = levels_length s.levels (written_answer (count s) s.table o w)

pub others_untouched : OthersUntouched
others_untouched s o w k j h a =
    let asks = stands_for s o w (of_channel k) h in
    let records = after_record s o w j (of_channel k) a (asked s o w) asks in
    let t = (write_state s o w).table in
    record {
      records = records;
      level = after_level s o w j (of_channel k) a (asked s o w) asks;
      words = λ p here.
          ap (λ (n : ℕ). read_answer n t p) (count_after s o w)
          ∙ ap (read_at (count s) t) here.found
          ∙ ap Ok (place_same (count s) s.table t j (after_model s o w (asked s o w)) records here.place here.is)
          ∙ ap (read_at (count s) s.table) (sym here.found);
    }
