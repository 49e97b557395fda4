-- What is promised of every run, after each of its accesses and rounds.
use Rattle.std.specs.Prelude.{◌≡◌, ℕ, ◌+◌, ◌<◌, ◌≤◌, Bool, true, false, ◌||◌, ◌⊎◌, List, [], ◌∷◌, length, get_or, take, Ok, Err, slice_index_or, Float}
use Rattle.values.specs.declared.model.Model.{Model}
use Rattle.values.specs.Ranges.{zero, stored_maximum}
use Rattle.values.specs.Steps.{limit_steps, ramp_step}
use Rattle.values.specs.Words.{value_of, upper_word, lower_word}
use Rattle.registers.specs.Map.{channel_begins}
use Rattle.table.specs.declared.records.Conditions.{Conditions}
use Rattle.table.specs.declared.round.Excess.{Excess}
use Rattle.table.specs.declared.round.Reading.{Reading}
use Rattle.table.specs.Carrying.{do_clear, module_passes}
use Rattle.table.specs.Changes.{blocked}
use Rattle.table.specs.Orders.{sets_emergency, sets_on}
use Rattle.table.specs.Reads.{channel_of}
use Rattle.table.specs.Round.{begun, excess_of, judged}
use Rattle.table.specs.Writes.{collected}
use Rattle.module.specs.State.{State, count, level_of, new_state}
use Rattle.module.specs.Rounds.{reading_of, round_pass}
use Rattle.runs.specs.Calls.{Asked, Told, run_state}
use Rattle.runs.specs.History.{Event, read, write, round, history, after}

abbrev pub no_event : Event
no_event = read 0 (Ok 0)

abbrev pub voltage_set : State → ℕ → Float
voltage_set s k = (channel_of s.table k).setpoint.voltage

abbrev pub kill_of : State → ℕ → Bool
kill_of s k = (channel_of s.table k).kill

abbrev pub on_of : State → ℕ → Bool
on_of s k = (channel_of s.table k).on

-- ---- no value from half a write

-- a write access of any kind, refused or not
abbrev pub IsWrite : Event → Type 0
IsWrite (read o r) = ⊥
IsWrite (write o w r) = Unit {0}
IsWrite (round x rs r) = ⊥

-- the value v of channel k was joined: an upper half was accepted, and later the lower half of the same register,
-- the channel's own VoltageSet or the group's, with no write access between them
pub record Joined (h : List Event) (k : ℕ) (v : Float) : Type 0 where
  pub first : ℕ
  pub second : ℕ
  pub register : ℕ
  pub upper : ℕ
  pub lower : ℕ
  pub order : first < second
  pub within : second < length h
  pub own_or_group : (register ≡ channel_begins k + 0x08) ⊎ (register ≡ 0x2A0)
  pub upper_accepted : get_or h first no_event ≡ write register upper (Ok tt)
  pub lower_accepted : get_or h second no_event ≡ write (register + 2) lower (Ok tt)
  pub between : (m : ℕ) → first < m → m < second → IsWrite (slice_index_or h m no_event) → ⊥
  pub value : v ≡ value_of upper lower
  pub words : upper < 65536 → lower < 65536 → (upper_word v ≡ upper) × (lower_word v ≡ lower)

-- VoltageSet is 00000000, or it was joined
abbrev pub FromHalves : List Event → ℕ → Float → Type 0
FromHalves h k v = (v ≡ zero) ⊎ Joined h k v

-- ---- no level without leave

-- the limit steps of the VoltageMax that a round brought
abbrev pub limit_of : Conditions → ℕ
limit_of x = limit_steps (stored_maximum x.maxima.voltage)

abbrev pub limit_after : ℕ → Event → ℕ
limit_after l (read o r) = l
limit_after l (write o w r) = l
limit_after l (round x rs (Ok u)) = limit_of x
limit_after l (round x rs (Err f)) = l

-- the limit of the latest accepted round, and l before the first
abbrev pub latest_limit : ℕ → List Event → ℕ
latest_limit l [] = l
latest_limit l (e ∷ h) = latest_limit (limit_after l e) h

-- whether the round finds channel k blocked when it comes to move its level
abbrev pub found_blocked : Bool → State → Conditions → List Reading → ℕ → Bool
found_blocked regulates s x rs k =
    blocked (module_passes (begun s.table x)) (judged (round_pass regulates s x) (channel_of s.table k) (reading_of rs k))

-- the event e, in the state s, may raise channel k to a level: it is an accepted round that does not find the channel blocked,
-- and the level is at most the ramp step higher
pub record Leave (regulates : Bool) (s : State) (e : Event) (k level : ℕ) : Type 0 where
  pub conditions : Conditions
  pub readings : List Reading
  pub accepted_round : e ≡ round conditions readings (Ok tt)
  pub not_blocked : found_blocked regulates s conditions readings k ≡ false
  pub by_ramp_step : level ≤ level_of s k + ramp_step s.table.speed

-- ---- a killed channel stays down

abbrev pub over_any : Excess → Bool
over_any x = x.voltage_limit || (x.current_limit || x.current_set)

-- the event e, in the state s, kills channel k: it is an accepted round, KillEnable is on, and the channel's reading is over
-- VoltageLimit, CurrentLimit or CurrentSet
pub record Kills (regulates : Bool) (s : State) (e : Event) (k : ℕ) : Type 0 where
  pub conditions : Conditions
  pub readings : List Reading
  pub accepted_round : e ≡ round conditions readings (Ok tt)
  pub kill_enable : s.table.kill_enable ≡ true
  pub over : over_any (excess_of (round_pass regulates s conditions) (channel_of s.table k) (reading_of readings k)) ≡ true

-- an accepted ModuleControl with doCLEAR
pub record Clears (e : Event) : Type 0 where
  pub word : ℕ
  pub accepted : e ≡ write 0x02 word (Ok tt)
  pub has_do_clear : do_clear word ≡ true

-- an accepted ChannelControl with bit 3 and not bit 5
pub record SwitchesOne (e : Event) (k : ℕ) : Type 0 where
  pub word : ℕ
  pub accepted : e ≡ write (channel_begins k + 0x02) word (Ok tt)
  pub on : sets_on word ≡ true
  pub no_emergency : sets_emergency word ≡ false

-- switching on: that, or the group's switch completed with 1
abbrev pub SwitchesOn : Event → ℕ → Type 0
SwitchesOn e k = SwitchesOne e k ⊎ (e ≡ write 0x2B6 1 (Ok tt))

-- after place i of the history and before place p there was a doCLEAR and, after that, a switching on of channel k
pub record Restored (h : List Event) (i p k : ℕ) : Type 0 where
  pub cleared : ℕ
  pub switched : ℕ
  pub since : i < cleared
  pub then : cleared < switched
  pub before : switched < p
  pub clears : Clears (slice_index_or h cleared no_event)
  pub switches : SwitchesOn (slice_index_or h switched no_event) k

-- ---- collected events

-- 08 has the bit of every channel that has an event that passes its mask: collecting again changes nothing
abbrev pub Gathered : State → Type 0
Gathered s = collected (count s) s.table ≡ s.table

-- ---- the law

-- the state of a new module of n channels after the first p events of the history h
abbrev pub state_at : Bool → Model → ℕ → List Event → ℕ → State
state_at regulates m n h p = after regulates (new_state m n) (take p h)

pub record Safe (regulates : Bool) (m : Model) (n : ℕ) (h : List Event) : Type 0 where
  -- no value from half a write
  pub values : (p k : ℕ) → p ≤ length h → k < n → FromHalves (take p h) k (voltage_set (state_at regulates m n h p) k)
  -- no level is above the limit of the latest accepted round, 0 before the first
  pub limited : (p k : ℕ) → p ≤ length h → level_of (state_at regulates m n h p) k ≤ latest_limit 0 (take p h)
  -- a level rose only with leave
  pub raised : (p k : ℕ) → p < length h
      → level_of (state_at regulates m n h p) k < level_of (state_at regulates m n h (p + 1)) k
      → Leave regulates (state_at regulates m n h p) (slice_index_or h p no_event) k (level_of (state_at regulates m n h (p + 1)) k)
  -- a channel that place i killed is at level 0 after every later place, unless it was restored since
  pub killed : (i p k : ℕ) → i < p → p ≤ length h → k < n
      → Kills regulates (state_at regulates m n h i) (slice_index_or h i no_event) k
      → (level_of (state_at regulates m n h p) k ≡ 0) ⊎ Restored h i p k
  -- nothing but a doCLEAR ends a kill
  pub kill_ends : (p k : ℕ) → p < length h → k < n
      → kill_of (state_at regulates m n h p) k ≡ true → kill_of (state_at regulates m n h (p + 1)) k ≡ false
      → Clears (slice_index_or h p no_event)
  -- nothing but a switching on turns a channel on, and a channel that holds a kill not even that
  pub turns_on : (p k : ℕ) → p < length h → k < n
      → on_of (state_at regulates m n h p) k ≡ false → on_of (state_at regulates m n h (p + 1)) k ≡ true
      → SwitchesOn (slice_index_or h p no_event) k × (kill_of (state_at regulates m n h p) k ≡ false)
  -- after every access and round the channel events are collected, so a read has nothing to collect
  pub gathered : (p : ℕ) → p ≤ length h → Gathered (state_at regulates m n h p)

-- the history tells the states of the run: the events of the first q calls lead to the state after them
abbrev pub Tells : Bool → Model → ℕ → List Asked → List Told → Type 0
Tells regulates m n calls replies =
    (q : ℕ) → state_at regulates m n (history calls replies) (length (history (take q calls) (take q replies))) ≡ run_state regulates (new_state m n) (take q calls)
