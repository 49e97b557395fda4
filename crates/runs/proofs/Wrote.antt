-- What a write does to channel k and to the held half.
use Rattle.std.proofs.Common.{◌≡◌, ℕ, zero, suc, ◌+◌, ◌<◌, ◌≤◌, min, Bool, true, false, cond, not, ◌&&◌, ◌||◌, eqb, ◌⊎◌, List, [], ◌∷◌, length, get_or, take, set, replicate, Some, None, Option, Ok, Err, Result, sym, refl, ap, ◌∙◌, subst, inl, inr, arith}
use lib.Ieee.{Float}
use Rattle.std.specs.List.{list_any}
use Rattle.std.proofs.lemmas.Bool.{eqb-true, or_parts}
use Rattle.values.specs.Ranges.{voltage_admitted}
use Rattle.values.specs.Words.{value_of}
use Rattle.registers.specs.declared.fault.ModuleFault.{ModuleFault}
use Rattle.registers.specs.Faults.{refusal_5, refusal_6}
use Rattle.registers.specs.Map.{channel_begins}
use Rattle.table.specs.declared.records.Channel.{Channel}
use Rattle.table.specs.declared.records.Half.{Half}
use Rattle.table.specs.declared.records.Table.{Table}
use Rattle.table.specs.declared.carrying.Drive.{Drive}
use Rattle.table.specs.declared.carrying.Drive.TheVariants as drive
use Rattle.table.specs.declared.order.Order.{Order}
use Rattle.table.specs.declared.order.Order.TheVariants as order
use Rattle.table.specs.declared.setting.Setting.TheVariants as setting
use Rattle.table.specs.declared.writing.Request.{Request}
use Rattle.table.specs.declared.writing.Request.TheVariants as request
use Rattle.table.specs.Changes.{blocked, event_passes, switch_refused}
use Rattle.table.specs.Carrying.{do_clear, module_passes, obeyed, error_noted, admitted, blocked_switch, drive_of, carried, carried_answer}
use Rattle.table.specs.Orders.{Switching, turned_on, unswitched, emergency, subject_of, quantity_of, switching_of, sets_emergency, sets_on}
use Rattle.table.specs.Parts.{half}
use Rattle.table.specs.Reads.{channel_of, placed, no_channel}
use Rattle.table.specs.Writes.{requested, released, served, served_answer}
use Rattle.module.specs.State.{State, count, done, driven_by, write_levels, write_state, write_answer}
use Rattle.module.specs.WriteLaws.{Whole}
use Rattle.module.proofs.WriteLawsRequests.{HoldsOwn, asked_own}
use Rattle.module.proofs.WriteLawsOrders.{carried_within}
use Rattle.runs.specs.History.{write}
use Rattle.runs.specs.Law.{SwitchesOne, SwitchesOn}
use Rattle.runs.proofs.Sources.{Source, one_word, two_halves, source}
use Rattle.runs.proofs.Touching.{Touched, SetsVoltage, TurnsOn, DoesClear, touched, noted}

-- ---- levels

set_falls : (ls : List ℕ) (j k : ℕ) → get_or (set ls j 0) k 0 ≤ get_or ls k 0
set_falls [] j k = omega arith
set_falls (x ∷ ls) zero zero = omega arith
set_falls (x ∷ ls) zero (suc k) = omega arith
set_falls (x ∷ ls) (suc j) zero = omega arith
set_falls (x ∷ ls) (suc j) (suc k) = set_falls ls j k

zeros_at : (n k : ℕ) → ◌≡◌ {A = ℕ} (get_or (replicate n 0) k 0) 0
zeros_at zero k = refl
zeros_at (suc n) zero = refl
zeros_at (suc n) (suc k) = zeros_at n k

driven_falls : (ls : List ℕ) (d : Drive) (k : ℕ) → get_or (driven_by ls d) k 0 ≤ get_or ls k 0
driven_falls ls drive.Nothing k = omega arith
driven_falls ls (drive.ToZero j) k = set_falls ls j k
driven_falls ls drive.AllToZero k = omega (arith, zeros_at (length ls) k)

-- no write raises a level
pub level_falls : (ls : List ℕ) (r : Result Drive ModuleFault) (k : ℕ) → get_or (write_levels ls r) k 0 ≤ get_or ls k 0
level_falls ls (Ok d) k = driven_falls ls d k
level_falls ls (Err f) k = omega arith

-- ---- blocking

none_at : (P : Channel → Bool) (m k : ℕ) (cs : List Channel) → k < m → k < length cs → list_any P (take m cs) ≡ false → P (get_or cs k no_channel) ≡ false
none_at P m k [] h l e = absurd (omega arith)
none_at P zero k (c ∷ cs) h l e = absurd (omega arith)
none_at P (suc m) zero (c ∷ cs) h l e = (or_parts (P c) (list_any P (take m cs)) e).0
none_at P (suc m) (suc k) (c ∷ cs) h l e = none_at P m k cs (omega arith) (omega arith) (or_parts (P c) (list_any P (take m cs)) e).1

-- a channel that is off and may be switched on holds no kill
no_kill : (passes : Bool) (c : Channel) → c.on ≡ false → switch_refused passes c ≡ false → c.kill ≡ false
no_kill passes c off e = (or_parts c.kill (event_passes c || passes) (sym (ap (λ (b : Bool). not b && blocked passes c) off) ∙ e)).0

-- ---- the ways in which an order ends

pub data Ending (n : ℕ) (t : Table) (x : Order) (o : ℕ) : Table → Result Drive ModuleFault → Type 0 where
  obeys : admitted t.model (quantity_of x) ≡ true → blocked_switch n t (subject_of x) (switching_of x) ≡ false → Ending n t x o (obeyed n t x) (Ok (drive_of (subject_of x) (switching_of x)))
  bars : Ending n t x o t (Err (refusal_6 o))
  notes : Ending n t x o (error_noted t (subject_of x)) (Err (refusal_5 o))

module _ (n : ℕ) (t : Table) (x : Order) (o : ℕ) where
  by_tests : (a b : Bool) → admitted t.model (quantity_of x) ≡ a → blocked_switch n t (subject_of x) (switching_of x) ≡ b
      → Ending n t x o (cond a (cond b t (obeyed n t x)) (error_noted t (subject_of x))) (cond a (cond b (Err (refusal_6 o)) (Ok (drive_of (subject_of x) (switching_of x)))) (Err (refusal_5 o)))
  by_tests true true e f = bars
  by_tests true false e f = obeys e f
  by_tests false b e f = notes

  ending : Ending n t x o (carried n t x) (carried_answer n t x o)
  ending = by_tests (admitted t.model (quantity_of x)) (blocked_switch n t (subject_of x) (switching_of x)) refl refl

-- ---- a write

-- the value v of channel k was completed by the lower half w at o
pub record Completes (s : State) (o w k : ℕ) (v : Float) : Type 0 where
  pub upper : ℕ
  pub held : s.table.held ≡ Some (half o upper)
  pub value : v ≡ value_of upper w
  pub fits : voltage_admitted s.table.model v ≡ true
  pub place : (o ≡ channel_begins k + 0x08 + 2) ⊎ (o ≡ 0x2A2)

-- the channel c becomes c', the held half h, by a write of w at o that is answered r
pub record Wrote (s : State) (o w k : ℕ) (r : Result (Unit {0}) ModuleFault) (c c' : Channel) : Type 0 where
  pub voltage : (c'.setpoint.voltage ≡ c.setpoint.voltage) ⊎ ((r ≡ Ok tt) × Completes s o w k c'.setpoint.voltage)
  pub kill : (c'.kill ≡ c.kill) ⊎ ((r ≡ Ok tt) × (o ≡ 0x02) × (do_clear w ≡ true))
  pub switch : c.on ≡ false → (c'.on ≡ false) ⊎ ((c.kill ≡ false) × SwitchesOn (write o w r) k)

idle : (s : State) (o w k : ℕ) (r : Result (Unit {0}) ModuleFault) (c : Channel) → Wrote s o w k r c c
idle s o w k r c = record { voltage = inl refl; kill = inl refl; switch = λ off. inl off }

module _ (s : State) (whole : Whole s) (o w k : ℕ) (low : k < count s) where
  abbrev t : Table
  t = released s.table

  abbrev c : Channel
  c = channel_of s.table k

  -- an obeyed order that sets the voltage completed a value

  own_value : (v : Float) → Source s.table.held o w (order.ChannelSetting k (setting.Voltage v)) → voltage_admitted s.table.model v ≡ true → Completes s o w k v
  own_value v (one_word at m) fits = absurd m
  own_value v (two_halves u h at m) fits = record { upper = u; held = h; value = m; fits = fits; place = inl at }

  group_value : (v : Float) → Source s.table.held o w (order.GroupSetting (setting.Voltage v)) → voltage_admitted s.table.model v ≡ true → Completes s o w k v
  group_value v (one_word at m) fits = absurd m
  group_value v (two_halves u h at m) fits = record { upper = u; held = h; value = m; fits = fits; place = inr at }

  sets : (x : Order) (v : Float) → Source s.table.held o w x → admitted s.table.model (quantity_of x) ≡ true → SetsVoltage x k v → Completes s o w k v
  sets x v from fits (inl e) = own_value v (subst (Source s.table.held o w) e from) (subst (λ (y : Order). admitted s.table.model (quantity_of y) ≡ true) e fits)
  sets x v from fits (inr e) = group_value v (subst (Source s.table.held o w) e from) (subst (λ (y : Order). admitted s.table.model (quantity_of y) ≡ true) e fits)

  clears_by : (v : ℕ) → Source s.table.held o w (order.ModuleControl v) → do_clear v ≡ true → (o ≡ 0x02) × (do_clear w ≡ true)
  clears_by v (one_word at m) d = (at, subst (λ (i : ℕ). do_clear i ≡ true) m d)
  clears_by v (two_halves u h at m) d = absurd m

  clears : (x : Order) → Source s.table.held o w x → DoesClear x → (o ≡ 0x02) × (do_clear w ≡ true)
  clears x from d = clears_by d.0 (subst (Source s.table.held o w) d.1 from) d.2

  -- an obeyed order that switches channel k on

  one_on : (v : ℕ) → Source s.table.held o w (order.ChannelControl k v) → sets_emergency v ≡ false → sets_on v ≡ true → SwitchesOne (write o w (Ok tt)) k
  one_on v (one_word at m) e d = record {
    word = w;
    accepted = ap (λ (i : ℕ). write i w (Ok tt)) at;
    on = subst (λ (i : ℕ). sets_on i ≡ true) m d;
    no_emergency = subst (λ (i : ℕ). sets_emergency i ≡ false) m e;
  }
  one_on v (two_halves u h at m) e d = absurd m

  group_on : (d : ℕ) → Source s.table.held o w (order.GroupSwitch d) → eqb d 1 ≡ true → write o w (Ok tt) ≡ write 0x2B6 1 (Ok tt)
  group_on d (one_word at m) e = absurd m
  group_on d (two_halves u h at m) e =
      let is : d ≡ 1 = eqb-true d 1 e in
      let low_half : w ≡ 1 = omega arith in
      ap (λ (i : ℕ). write i w (Ok tt)) at ∙ ap (λ (i : ℕ). write 0x2B6 i (Ok tt)) low_half

  turns : (x : Order) → Source s.table.held o w x → TurnsOn x k → SwitchesOn (write o w (Ok tt)) k
  turns x from (inl d) = inl (one_on d.0 (subst (Source s.table.held o w) d.1 from) d.2 d.3)
  turns x from (inr d) = inr (group_on d.0 (subst (Source s.table.held o w) d.1 from) d.2)

  -- a channel that such an order finds off holds no kill
  one_free : (v : ℕ) → sets_emergency v ≡ false → sets_on v ≡ true → c.on ≡ false → blocked_switch (count s) t (subject_of (order.ChannelControl k v)) (switching_of (order.ChannelControl k v)) ≡ false → c.kill ≡ false
  one_free v e d off free =
      let is : switching_of (order.ChannelControl k v) ≡ turned_on = ap (λ (b : Bool). cond b emergency (cond (sets_on v) turned_on unswitched)) e ∙ ap (λ (b : Bool). cond b turned_on unswitched) d in
      no_kill (module_passes t) c off (subst (λ (y : Switching). blocked_switch (count s) t (subject_of (order.ChannelControl k v)) y ≡ false) is free)

  group_free : (d : ℕ) → eqb d 1 ≡ true → c.on ≡ false → blocked_switch (count s) t (subject_of (order.GroupSwitch d)) (switching_of (order.GroupSwitch d)) ≡ false → c.kill ≡ false
  group_free d e off free =
      let is : switching_of (order.GroupSwitch d) ≡ turned_on = ap (λ (b : Bool). cond b turned_on unswitched) e in
      let none : list_any (switch_refused (module_passes t)) (placed (count s) t) ≡ false = subst (λ (y : Switching). blocked_switch (count s) t (subject_of (order.GroupSwitch d)) y ≡ false) is free in
      no_kill (module_passes t) c off (none_at (switch_refused (module_passes t)) (min (count s) 12) k s.table.channels (omega (arith, whole.few)) (omega (arith, whole.few, whole.records)) none)

  frees : (x : Order) → c.on ≡ false → blocked_switch (count s) t (subject_of x) (switching_of x) ≡ false → TurnsOn x k → c.kill ≡ false
  frees x off free (inl d) = one_free d.0 d.2 d.3 off (subst (λ (y : Order). blocked_switch (count s) t (subject_of y) (switching_of y) ≡ false) d.1 free)
  frees x off free (inr d) = group_free d.0 d.2 off (subst (λ (y : Order). blocked_switch (count s) t (subject_of y) (switching_of y) ≡ false) d.1 free)

  -- an order that is obeyed
  obeyed_wrote : (x : Order) (c' : Channel) → Source s.table.held o w x → admitted s.table.model (quantity_of x) ≡ true → blocked_switch (count s) t (subject_of x) (switching_of x) ≡ false → Touched x k c c' → Wrote s o w k (Ok tt) c c'
  obeyed_wrote x c' from fits free h = record {
    voltage = elim h.voltage [ inl e ↦ inl e | inr v ↦ inr (refl, sets x c'.setpoint.voltage from fits (subst (SetsVoltage x k) (sym v.1) v.2)) ];
    kill = elim h.kill [ inl e ↦ inl e | inr d ↦ let at = clears x from d in inr (refl, at.0, at.1) ];
    switch = λ off. elim h.switch [
      | inl e ↦ inl (e ∙ off)
      | inr z ↦ elim z [ inl e ↦ inl e | inr d ↦ inr (frees x off free d, turns x from d) ]
    ];
  }

  by_ending : (x : Order) (u : Table) (a : Result Drive ModuleFault) → Source s.table.held o w x → Ending (count s) t x o u a → Wrote s o w k (done a) c (channel_of u k)
  by_ending x u a from (obeys fits free) = obeyed_wrote x _ from fits free (touched (count s) t k low whole.few whole.records x)
  by_ending x u a from bars = idle s o w k _ c
  by_ending x u a from notes =
      let same = noted (count s) t k low whole.few whole.records (subject_of x) in
      record { voltage = inl same.0; kill = inl same.1; switch = λ off. inl (same.2 ∙ off) }

  by_request : (q : Result Request ModuleFault) → requested (count s) s.table o w ≡ q
      → Wrote s o w k (done (served_answer (count s) s.table o q)) c (channel_of (served (count s) s.table q) k)
  by_request (Ok (request.Hold u)) e = idle s o w k _ c
  by_request (Ok (request.Carry x)) e = by_ending x (carried (count s) t x) (carried_answer (count s) t x o) (source (count s) s.table o w x e) (ending (count s) t x o)
  by_request (Err f) e = idle s o w k _ c

  pub wrote : Wrote s o w k (write_answer s o w) c (channel_of (write_state s o w).table k)
  wrote = by_request (requested (count s) s.table o w) refl

-- ---- the held half after a write

module _ (s : State) (o w : ℕ) where
  abbrev HeldBy : Option Half → Result (Unit {0}) ModuleFault → Type 0
  HeldBy h r = (h ≡ None) ⊎ ((h ≡ Some (half (o + 2) w)) × (r ≡ Ok tt))

  held_by : (q : Result Request ModuleFault) → HoldsOwn o w q → HeldBy (served (count s) s.table q).held (done (served_answer (count s) s.table o q))
  held_by (Ok (request.Hold u)) own = inr (ap Some own, refl)
  held_by (Ok (request.Carry x)) own = inl (carried_within (count s) (released s.table) x).kept.0
  held_by (Err f) own = inl refl

  pub wrote_held : ((write_state s o w).table.held ≡ None) ⊎ (((write_state s o w).table.held ≡ Some (half (o + 2) w)) × (write_answer s o w ≡ Ok tt))
  wrote_held = held_by (requested (count s) s.table o w) (asked_own s o w)
