-- What an order that is obeyed does to the set voltage, the kill and the switch of channel k.
use Rattle.std.proofs.Common.{◌≡◌, ℕ, zero, suc, ◌<◌, ◌≤◌, min, Bool, true, false, cond, eqb, ◌⊎◌, List, [], ◌∷◌, ◌++◌, map, length, get_or, take, drop, sym, refl, ap, ◌∙◌, subst, inl, inr, arith, get_or-set_other, get_or-set_same}
use lib.Ieee.{Float}
use Rattle.std.proofs.lemmas.Bool.{cases_eq}
use Rattle.table.specs.declared.records.Channel.{Channel}
use Rattle.table.specs.declared.records.Table.{Table}
use Rattle.table.specs.declared.change.Change.{Change}
use Rattle.table.specs.declared.change.Change.TheVariants as change
use Rattle.table.specs.declared.order.Order.{Order}
use Rattle.table.specs.declared.order.Order.TheVariants as order
use Rattle.table.specs.declared.setting.Setting.{Setting}
use Rattle.table.specs.declared.setting.Setting.TheVariants as setting
use Rattle.table.specs.Changes.{changed}
use Rattle.table.specs.Carrying.{changed_at, changed_all, control_change, do_clear, cleared, obeyed, error_noted}
use Rattle.table.specs.Orders.{Subject, of_module, of_channel, of_all, sets_emergency, sets_on}
use Rattle.table.specs.Reads.{channel_of, no_channel}

-- ---- one channel of a changed table

map_front_at : (f : Channel → Channel) (m k : ℕ) (cs : List Channel) → k < m → k < length cs → get_or (map f (take m cs) ++ drop m cs) k no_channel ≡ f (get_or cs k no_channel)
map_front_at f m k [] h l = absurd (omega arith)
map_front_at f zero k (c ∷ cs) h l = absurd (omega arith)
map_front_at f (suc m) zero (c ∷ cs) h l = refl
map_front_at f (suc m) (suc k) (c ∷ cs) h l = map_front_at f m k cs (omega arith) (omega arith)

module _ (n : ℕ) (t : Table) (k : ℕ) (low : k < n) (few : n ≤ 12) (records : length t.channels ≡ 12) where
  pub all_at : (x : Change) → channel_of (changed_all n t x) k ≡ changed (channel_of t k) x
  all_at x = map_front_at (λ (c : Channel). changed c x) (min n 12) k t.channels (omega arith) (omega arith)

  pub one_at : (j : ℕ) (x : Change) (P : Channel → Type 0) → (j ≡ k → P (changed (channel_of t k) x)) → P (channel_of t k) → P (channel_of (changed_at t j x) k)
  one_at j x P here there = elim (cases_eq j k) [
    | inl e ↦
        let at : channel_of (changed_at t k x) k ≡ changed (channel_of t k) x = get_or-set_same t.channels k (changed (channel_of t k) x) no_channel (omega arith) in
        subst P (sym (ap (λ (i : ℕ). channel_of (changed_at t i x) k) e ∙ at)) (here e)
    | inr ne ↦ subst P (sym (get_or-set_other t.channels j k (changed (channel_of t j) x) no_channel (λ e. ne (sym e)))) there
  ]

-- ---- the ways in which an order touches a channel

-- the order x sets the voltage v for channel k
abbrev pub SetsVoltage : Order → ℕ → Float → Type 0
SetsVoltage x k v = (x ≡ order.ChannelSetting k (setting.Voltage v)) ⊎ (x ≡ order.GroupSetting (setting.Voltage v))

-- the order x switches channel k on
abbrev pub TurnsOn : Order → ℕ → Type 0
TurnsOn x k = ((w : ℕ) × (x ≡ order.ChannelControl k w) × (sets_emergency w ≡ false) × (sets_on w ≡ true)) ⊎ ((d : ℕ) × (x ≡ order.GroupSwitch d) × (eqb d 1 ≡ true))

-- the order x is a doCLEAR
abbrev pub DoesClear : Order → Type 0
DoesClear x = (w : ℕ) × (x ≡ order.ModuleControl w) × (do_clear w ≡ true)

-- the channel c becomes c' by the order x
pub record Touched (x : Order) (k : ℕ) (c c' : Channel) : Type 0 where
  pub voltage : (c'.setpoint.voltage ≡ c.setpoint.voltage) ⊎ ((v : Float) × (c'.setpoint.voltage ≡ v) × SetsVoltage x k v)
  pub kill : (c'.kill ≡ c.kill) ⊎ DoesClear x
  pub switch : (c'.on ≡ c.on) ⊎ ((c'.on ≡ false) ⊎ TurnsOn x k)

-- the set voltage, the kill and the switch are the same
abbrev pub Same : Channel → Channel → Type 0
Same c c' = (c'.setpoint.voltage ≡ c.setpoint.voltage) × (c'.kill ≡ c.kill) × (c'.on ≡ c.on)

untouched : (x : Order) (k : ℕ) (c : Channel) → Touched x k c c
untouched x k c = record { voltage = inl refl; kill = inl refl; switch = inl refl }

-- a change that touches none of the three
quiet : (x : Order) (k : ℕ) (c c' : Channel) → c'.setpoint.voltage ≡ c.setpoint.voltage → c'.kill ≡ c.kill → c'.on ≡ c.on → Touched x k c c'
quiet x k c c' v q o = record { voltage = inl v; kill = inl q; switch = inl o }

switched_off : (x : Order) (k : ℕ) (c c' : Channel) → c'.setpoint.voltage ≡ c.setpoint.voltage → c'.kill ≡ c.kill → c'.on ≡ false → Touched x k c c'
switched_off x k c c' v q o = record { voltage = inl v; kill = inl q; switch = inr (inl o) }

module _ (n : ℕ) (t : Table) (k : ℕ) (low : k < n) (few : n ≤ 12) (records : length t.channels ≡ 12) where
  abbrev c : Channel
  c = channel_of t k

  -- an order that changes every channel by y
  by_all : (x : Order) (y : Change) → Touched x k c (changed c y) → Touched x k c (channel_of (changed_all n t y) k)
  by_all x y h = subst (Touched x k c) (sym (all_at n t k low few records y)) h

  -- an order that changes channel j by y
  by_one : (x : Order) (j : ℕ) (y : Change) → (j ≡ k → Touched x k c (changed c y)) → Touched x k c (channel_of (changed_at t j y) k)
  by_one x j y h = one_at n t k low few records j y (Touched x k c) h (untouched x k c)

  by_control : (j w : ℕ) (e s : Bool) → j ≡ k → sets_emergency w ≡ e → sets_on w ≡ s → Touched (order.ChannelControl j w) k c (changed c (cond e change.EmergencyOff (change.Switch s)))
  by_control j w true s same e o = switched_off _ k c _ refl refl refl
  by_control j w false false same e o = switched_off _ k c _ refl refl refl
  by_control j w false true same e o = record { voltage = inl refl; kill = inl refl; switch = inr (inr (inl (w, ap (λ (i : ℕ). order.ChannelControl i w) same, e, o))) }

  by_switch : (d : ℕ) (s : Bool) → eqb d 1 ≡ s → Touched (order.GroupSwitch d) k c (changed c (change.Switch s))
  by_switch d true e = record { voltage = inl refl; kill = inl refl; switch = inr (inr (inr (d, refl, e))) }
  by_switch d false e = switched_off _ k c _ refl refl refl

  by_clear : (w : ℕ) (b : Bool) → do_clear w ≡ b → Touched (order.ModuleControl w) k c (channel_of (cond b (cleared n t) t) k)
  by_clear w true e = by_all (order.ModuleControl w) change.Clear (record { voltage = inl refl; kill = inr (w, refl, e); switch = inl refl })
  by_clear w false e = untouched (order.ModuleControl w) k c

  by_own : (j : ℕ) (x : Setting) → j ≡ k → Touched (order.ChannelSetting j x) k c (changed c (change.Set x))
  by_own j (setting.Voltage v) e = record { voltage = inr (v, refl, inl (ap (λ (i : ℕ). order.ChannelSetting i (setting.Voltage v)) e)); kill = inl refl; switch = inl refl }
  by_own j (setting.Current v) e = quiet _ k c _ refl refl refl
  by_own j (setting.VoltageBounds v) e = quiet _ k c _ refl refl refl
  by_own j (setting.CurrentBounds v) e = quiet _ k c _ refl refl refl

  by_group : (x : Setting) → Touched (order.GroupSetting x) k c (changed c (change.Set x))
  by_group (setting.Voltage v) = record { voltage = inr (v, refl, inr refl); kill = inl refl; switch = inl refl }
  by_group (setting.Current v) = quiet _ k c _ refl refl refl
  by_group (setting.VoltageBounds v) = quiet _ k c _ refl refl refl
  by_group (setting.CurrentBounds v) = quiet _ k c _ refl refl refl

  pub touched : (x : Order) → Touched x k c (channel_of (obeyed n t x) k)
  touched (order.ModuleControl w) = by_clear w (do_clear w) refl
  touched (order.ClearModuleEvents w) = untouched _ k c
  touched (order.ModuleEventMask w) = untouched _ k c
  touched (order.ClearCollectedEvents w) = untouched _ k c
  touched (order.CollectedEventMask w) = untouched _ k c
  touched (order.RampSpeed v) = untouched _ k c
  touched (order.ChannelControl j w) = by_one _ j (control_change w) (λ e. by_control j w (sets_emergency w) (sets_on w) e refl refl)
  touched (order.ClearChannelEvents j w) = by_one _ j (change.ClearEvents w) (λ e. quiet _ k c _ refl refl refl)
  touched (order.ChannelEventMask j w) = by_one _ j (change.EventMask w) (λ e. quiet _ k c _ refl refl refl)
  touched (order.ChannelSetting j x) = by_one _ j (change.Set x) (by_own j x)
  touched (order.GroupSetting x) = by_all _ (change.Set x) (by_group x)
  touched (order.GroupEmergency d) = by_all _ change.EmergencyOff (switched_off _ k c _ refl refl refl)
  touched (order.GroupSwitch d) = by_all _ (change.Switch (eqb d 1)) (by_switch d (eqb d 1) refl)

  -- noting an input error touches none of the three
  pub noted : (y : Subject) → Same c (channel_of (error_noted t y) k)
  noted of_module = (refl, refl, refl)
  noted (of_channel j) = one_at n t k low few records j change.InputError (Same c) (λ e. (refl, refl, refl)) (refl, refl, refl)
  noted of_all = (refl, refl, refl)
