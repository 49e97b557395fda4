-- What every order leaves as it was, and the ways in which an order ends.
use Rattle.std.proofs.Common.{◌≡◌, ℕ, Bool, true, false, cond, eqb, length, Ok, Err, Result, refl, arith}
use Rattle.std.proofs.lemmas.List.{length-append, length-drop, length-map, length-set, length-take, get_or-set_other}
use Rattle.registers.specs.declared.fault.ModuleFault.{ModuleFault}
use Rattle.registers.specs.Faults.{refusal_5, refusal_6}
use Rattle.table.specs.declared.records.Table.{Table}
use Rattle.table.specs.declared.change.Change.{Change}
use Rattle.table.specs.declared.change.Change.TheVariants as change
use Rattle.table.specs.declared.order.Order.{Order}
use Rattle.table.specs.declared.order.Order.TheVariants as order
use Rattle.table.specs.declared.carrying.Drive.{Drive}
use Rattle.table.specs.Changes.{changed}
use Rattle.table.specs.Orders.{Subject, of_module, of_channel, of_all, subject_of, quantity_of, switching_of}
use Rattle.table.specs.Carrying.{changed_at, changed_all, control_change, do_clear, cleared, controlled, obeyed, error_noted, admitted, blocked_switch, drive_of, carried, carried_answer}
use Rattle.table.specs.Reads.{channel_of, no_channel}

-- ---- what an order leaves

-- the held half, the model and the number of records
abbrev pub Kept : Table → Table → Type 0
Kept t u = (u.held ≡ t.held) × (u.model ≡ t.model) × (length u.channels ≡ length t.channels)

same_kept : (t : Table) → Kept t t
same_kept t = (refl, refl, refl)

all_kept : (n : ℕ) (t : Table) (x : Change) → Kept t (changed_all n t x)
all_kept n t x = (refl, refl, simp (length-append, length-map, length-take, length-drop) (omega arith))

clear_kept : (n : ℕ) (t : Table) (b : Bool) → Kept t (cond b (cleared n t) t)
clear_kept n t true = all_kept n t change.Clear
clear_kept n t false = same_kept t

-- x is one channel, and j is another
abbrev pub Apart : Subject → ℕ → Type 0
Apart of_module j = ⊥
Apart (of_channel k) j = j ≡ k → ⊥
Apart of_all j = ⊥

-- the table u, made from t for x, keeps that much, and of one channel every other
pub record Within (t : Table) (x : Subject) (u : Table) : Type 0 where
  pub kept : Kept t u
  pub other : (j : ℕ) → Apart x j → channel_of u j ≡ channel_of t j

for_module : (t u : Table) → Kept t u → Within t of_module u
for_module t u k = record { kept = k; other = λ j a. absurd a }

for_all : (t u : Table) → Kept t u → Within t of_all u
for_all t u k = record { kept = k; other = λ j a. absurd a }

for_channel : (t : Table) (k : ℕ) (x : Change) → Within t (of_channel k) (changed_at t k x)
for_channel t k x = record {
  kept = (refl, refl, length-set t.channels k (changed (channel_of t k) x));
  other = λ j a. get_or-set_other t.channels k j (changed (channel_of t k) x) no_channel a;
}

obeyed_within : (n : ℕ) (t : Table) (x : Order) → Within t (subject_of x) (obeyed n t x)
obeyed_within n t (order.ModuleControl w) = for_module t (controlled n t w) (clear_kept n t (do_clear w))
obeyed_within n t (order.ClearModuleEvents w) = for_module t _ (same_kept t)
obeyed_within n t (order.ModuleEventMask w) = for_module t _ (same_kept t)
obeyed_within n t (order.ClearCollectedEvents w) = for_module t _ (same_kept t)
obeyed_within n t (order.CollectedEventMask w) = for_module t _ (same_kept t)
obeyed_within n t (order.RampSpeed v) = for_module t _ (same_kept t)
obeyed_within n t (order.ChannelControl k w) = for_channel t k (control_change w)
obeyed_within n t (order.ClearChannelEvents k w) = for_channel t k (change.ClearEvents w)
obeyed_within n t (order.ChannelEventMask k w) = for_channel t k (change.EventMask w)
obeyed_within n t (order.ChannelSetting k x) = for_channel t k (change.Set x)
obeyed_within n t (order.GroupSetting x) = for_all t _ (all_kept n t (change.Set x))
obeyed_within n t (order.GroupEmergency d) = for_all t _ (all_kept n t change.EmergencyOff)
obeyed_within n t (order.GroupSwitch d) = for_all t _ (all_kept n t (change.Switch (eqb d 1)))

noted_within : (t : Table) (x : Subject) → Within t x (error_noted t x)
noted_within t of_module = for_module t _ (same_kept t)
noted_within t (of_channel k) = for_channel t k change.InputError
noted_within t of_all = for_all t _ (same_kept t)

-- ---- the ways in which an order ends

-- the table u and the answer r of the order x
pub data Ended (n : ℕ) (t : Table) (x : Order) (o : ℕ) : Table → Result Drive ModuleFault → Type 0 where
  obeys : admitted t.model (quantity_of x) ≡ true → Ended n t x o (obeyed n t x) (Ok (drive_of (subject_of x) (switching_of x)))
  bars : Ended n t x o t (Err (refusal_6 o))
  notes : Ended n t x o (error_noted t (subject_of x)) (Err (refusal_5 o))

module _ (n : ℕ) (t : Table) (x : Order) (o : ℕ) where
  by_tests : (a b : Bool) → admitted t.model (quantity_of x) ≡ a → Ended n t x o (cond a (cond b t (obeyed n t x)) (error_noted t (subject_of x))) (cond a (cond b (Err (refusal_6 o)) (Ok (drive_of (subject_of x) (switching_of x)))) (Err (refusal_5 o)))
  by_tests true true e = bars
  by_tests true false e = obeys e
  by_tests false b e = notes

  pub ended : Ended n t x o (carried n t x) (carried_answer n t x o)
  ended = by_tests (admitted t.model (quantity_of x)) (blocked_switch n t (subject_of x) (switching_of x)) refl

ended_within : (n : ℕ) (t : Table) (x : Order) (o : ℕ) (u : Table) (r : Result Drive ModuleFault) → Ended n t x o u r → Within t (subject_of x) u
ended_within n t x o u r (obeys e) = obeyed_within n t x
ended_within n t x o u r bars = record { kept = same_kept t; other = λ j a. refl }
ended_within n t x o u r notes = noted_within t (subject_of x)

-- an order, whether or not it is refused, changes only what it is for
pub carried_within : (n : ℕ) (t : Table) (x : Order) → Within t (subject_of x) (carried n t x)
carried_within n t x = ended_within n t x 0 (carried n t x) (carried_answer n t x 0) (ended n t x 0)
