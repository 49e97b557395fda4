-- Switching on is refused exactly for a blocked channel that is off.
use Rattle.std.proofs.Common.{◌≡◌, ℕ, ◌<◌, ◌≤◌, min, Bool, true, false, cond, not, List, length, get_or, Some, Option, Ok, Err, Result, sym, refl, ap, ◌∙◌, arith}
use Rattle.std.specs.List.{list_any}
use Rattle.std.proofs.lemmas.List.{length-take, get_or-take, get_or_default}
use Rattle.std.proofs.lemmas.List.Folds.{Any-from_list_any, list_any_at}
use Rattle.std.proofs.lemmas.Bool.{and_parts, and_from, not-true, not_from_false, cond-true, cond-false}
use Rattle.registers.specs.declared.fault.ModuleFault.{ModuleFault}
use Rattle.registers.specs.declared.place.ChannelWord.TheVariants as cw
use Rattle.registers.specs.declared.place.WordRegister.TheVariants as wr
use Rattle.registers.specs.declared.place.Place.{Place}
use Rattle.registers.specs.declared.place.Place.TheVariants as place
use Rattle.registers.specs.Faults.{refusal_6}
use Rattle.registers.specs.Map.{located}
use Rattle.registers.proofs.Standing.{map_stands}
use Rattle.table.specs.declared.records.Channel.{Channel}
use Rattle.table.specs.declared.records.Half.{Half}
use Rattle.table.specs.declared.records.Table.{Table}
use Rattle.table.specs.declared.order.Order.TheVariants as order
use Rattle.table.specs.declared.carrying.Drive.{Drive}
use Rattle.table.specs.declared.carrying.Drive.TheVariants as drive
use Rattle.table.specs.declared.writing.Request.{Request}
use Rattle.table.specs.declared.writing.Request.TheVariants as request
use Rattle.table.specs.Carrying.{module_passes, blocked_switch, drive_of}
use Rattle.table.specs.Changes.{blocked, switch_refused}
use Rattle.table.specs.Orders.{of_channel, Switching, unswitched, turned_on, emergency, switching_of, sets_emergency, sets_on}
use Rattle.table.specs.Parts.{half}
use Rattle.table.specs.Reads.{no_channel, channel_of, placed}
use Rattle.table.specs.Writes.{released, request_in, served_answer}
use Rattle.module.specs.State.{State, count, done, write_answer, write_state}
use Rattle.module.specs.WriteLaws.{Whole, OffAndBlocked, Refuses6, control_offset, ChannelRefuses, SwitchRefused}
use Rattle.module.proofs.WriteLawsRefusals.{refused_changes_nothing}
use Rattle.module.proofs.WriteLawsRequests.{asked}

module _ (s : State) (whole : Whole s) where
  placed_length : length (placed (count s) s.table) ≡ count s
  placed_length = length-take (min (count s) 12) s.table.channels ∙ omega (arith, whole.few, whole.records)

  placed_at : (k : ℕ) → k < count s → get_or (placed (count s) s.table) k no_channel ≡ channel_of s.table k
  placed_at k h = get_or-take (min (count s) 12) s.table.channels k no_channel (omega (arith, whole.few))

-- ---- a test decides between number 6 and acceptance

module _ (o : ℕ) (d : Drive) (r : Result (Unit {0}) ModuleFault) where
  six : (b : Bool) → r ≡ done (cond b (Err (refusal_6 o)) (Ok d)) → b ≡ true → r ≡ Err (refusal_6 o)
  six b is e = is ∙ ap (λ (x : Bool). done (cond x (Err (refusal_6 o)) (Ok d))) e

  six_only : (b : Bool) → r ≡ done (cond b (Err (refusal_6 o)) (Ok d)) → r ≡ Err (refusal_6 o) → b ≡ true
  six_only true is e = refl
  six_only false is e = let z : ◌≡◌ {A = ℕ} 0 1 = cc in absurd (omega arith)

module _ (t : Table) (k : ℕ) where
  refuses : OffAndBlocked t k → switch_refused (module_passes t) (channel_of t k) ≡ true
  refuses h = and_from (not (channel_of t k).on) (blocked (module_passes t) (channel_of t k)) (not_from_false (channel_of t k).on h.off) h.barred

  refuses_only : switch_refused (module_passes t) (channel_of t k) ≡ true → OffAndBlocked t k
  refuses_only e =
      let both = and_parts (not (channel_of t k).on) (blocked (module_passes t) (channel_of t k)) e in
      record { off = not-true (channel_of t k).on both.0; barred = both.1 }

-- ---- one channel

module _ (s : State) (k w : ℕ) (few : count s ≤ 12) (below : k < count s) (stays : sets_emergency w ≡ false) (on : sets_on w ≡ true) where
  asks : asked s (control_offset k) w ≡ Ok (request.Carry (order.ChannelControl k w))
  asks =
      ap (λ (x : Result Place ModuleFault). request_in s.table.held x (control_offset k) w)
      (map_stands.found (count s) (place.Word (wr.Channel k cw.Control)) few below)

  switches : switching_of (order.ChannelControl k w) ≡ turned_on
  switches = cond-false (sets_emergency w) emergency (cond (sets_on w) turned_on unswitched) stays ∙ cond-true (sets_on w) turned_on unswitched on

  control_answer : write_answer s (control_offset k) w ≡ done (cond (switch_refused (module_passes s.table) (channel_of s.table k)) (Err (refusal_6 (control_offset k))) (Ok drive.Nothing))
  control_answer =
      ap (λ (q : Result Request ModuleFault). done (served_answer (count s) s.table (control_offset k) q)) asks
      ∙ ap (λ (x : Switching). done (cond (blocked_switch (count s) (released s.table) (of_channel k) x) (Err (refusal_6 (control_offset k))) (Ok (drive_of (of_channel k) x)))) switches

  channel_refuses : ChannelRefuses s k w
  channel_refuses = record {
    refused = λ h. six (control_offset k) drive.Nothing (write_answer s (control_offset k) w) _ control_answer (refuses s.table k h);
    only = λ e. refuses_only s.table k (six_only (control_offset k) drive.Nothing (write_answer s (control_offset k) w) _ control_answer e);
  }

-- ---- all channels

module _ (s : State) (whole : Whole s) (held : s.table.held ≡ Some (half 0x2B6 0)) where
  abbrev barred : Channel → Bool
  barred = switch_refused (module_passes s.table)

  abbrev channels : List Channel
  channels = placed (count s) s.table

  group_asks : asked s 0x2B6 1 ≡ Ok (request.Carry (order.GroupSwitch 1))
  group_asks = ap (λ (h : Option Half). request_in h (located (count s) 0x2B6) 0x2B6 1) held

  group_answer : write_answer s 0x2B6 1 ≡ done (cond (list_any barred channels) (Err (refusal_6 0x2B6)) (Ok drive.Nothing))
  group_answer = ap (λ (q : Result Request ModuleFault). done (served_answer (count s) s.table 0x2B6 q)) group_asks

  group_refused : (k : ℕ) → k < count s → OffAndBlocked s.table k → Refuses6 s 0x2B6 1
  group_refused k h b =
      six 0x2B6 drive.Nothing (write_answer s 0x2B6 1) (list_any barred channels) group_answer
      (list_any_at barred channels k no_channel (omega (arith, placed_length s whole)) (ap barred (placed_at s whole k h) ∙ refuses s.table k b))

  group_only : Refuses6 s 0x2B6 1 → (k : ℕ) × (k < count s) × OffAndBlocked s.table k
  group_only e =
      let r = Any-from_list_any barred channels (six_only 0x2B6 drive.Nothing (write_answer s 0x2B6 1) (list_any barred channels) group_answer e) in
      let h : r.0 < count s = omega (arith, r.2, placed_length s whole) in
      let here : get_or channels r.0 no_channel ≡ r.1 = get_or_default channels r.0 no_channel r.1 r.2 ∙ r.3 in
      (r.0, h, refuses_only s.table r.0 (ap barred (sym (placed_at s whole r.0 h) ∙ here) ∙ r.4))

  group_unchanged : Refuses6 s 0x2B6 1 → (write_state s 0x2B6 1).table.channels ≡ s.table.channels
  group_unchanged e = ap (λ (t : Table). t.channels) ((refused_changes_nothing s 0x2B6 1 (refusal_6 0x2B6) e).table (λ five. omega arith))

pub switch_refused_lem : SwitchRefused
switch_refused_lem = record {
  channel = channel_refuses;
  group = λ s whole held. record { refused = group_refused s whole held; only = group_only s whole held; unchanged = group_unchanged s whole held };
}
