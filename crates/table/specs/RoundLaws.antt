-- What holds of one channel over a round: c is its record before the round and d after it, n its level before it and m after it,
-- r its reading, p what the round fixes for every channel.
use Rattle.std.specs.Prelude.{◌≡◌, ℕ, ◌+◌, ◌-◌, ◌<◌, ◌≤◌, min, Bool, true, false, not, ◌⊎◌, ◌≢◌, bit_and}
use Rattle.values.specs.Ranges.{zero}
use Rattle.values.specs.Steps.{set_steps}
use Rattle.table.specs.declared.records.Channel.{Channel}
use Rattle.table.specs.declared.round.Pass.{Pass}
use Rattle.table.specs.declared.round.Reading.{Reading}
use Rattle.table.specs.Changes.{blocked}
use Rattle.table.specs.New.{neither}
use Rattle.table.specs.Round.{over, shut_off, on_after, judged, goal_of}

-- the channel is blocked as it comes to move its level
abbrev pub held_back : Pass → Channel → Reading → Bool
held_back p c r = blocked p.module_passes (judged p c r)

-- the goal of the level as the channel comes to move it
abbrev pub goal_after : Pass → Channel → Reading → ℕ
goal_after p c r = goal_of p (judged p c r)

-- every bit of x is set in the word
abbrev pub Has : ℕ → ℕ → Type 0
Has x word = bit_and x word ≡ x

-- every event that was set is set
abbrev pub Kept : ℕ → ℕ → Type 0
Kept old new = bit_and old new ≡ old

-- what a channel needs to rise: it was on, the loop is closed, it is not inhibited, it is on after the judging,
-- no kill is stored and it is not blocked as it comes to move; and it rises by the ramp step at most
pub record Leave (p : Pass) (c : Channel) (r : Reading) (n : ℕ) (d : Channel) (m : ℕ) : Type 0 where
  pub was_on : c.on ≡ true
  pub closed : p.loop_closed ≡ true
  pub not_inhibited : r.inhibit_low ≡ false
  pub is_on : on_after p c r ≡ true
  pub no_kill : d.kill ≡ false
  pub not_blocked : held_back p c r ≡ false
  pub by_step : m ≤ n + p.ramp_step

-- a level rises only with leave
abbrev pub RisesWithLeave : Pass → Channel → Reading → ℕ → Channel → ℕ → Type 0
RisesWithLeave p c r n d m = n < m → Leave p c r n d m

-- a channel that is off, or is shut off in this round, does not rise; one that is shut off is at 0
pub record OffNeverRises (p : Pass) (c : Channel) (r : Reading) (n m : ℕ) : Type 0 where
  pub stays_low : (c.on ≡ false) ⊎ (shut_off p c r ≡ true) → m ≤ n
  pub at_zero : shut_off p c r ≡ true → m ≡ 0

-- the reading is over VoltageLimit, CurrentLimit or CurrentSet
abbrev pub OverSome : Pass → Channel → Reading → Type 0
OverSome p c r =
    (over r.voltage p.limits.voltage ≡ true)
    ⊎ ((over r.current p.limits.current ≡ true) ⊎ (over r.current c.setpoint.current ≡ true))

pub record Killed (d : Channel) (m : ℕ) : Type 0 where
  pub at_zero : m ≡ 0
  pub is_off : d.on ≡ false
  pub stored : d.kill ≡ true

-- with KillEnable on, a reading over any limit kills; a stored kill stays stored
pub record KilledIsAtZero (p : Pass) (c : Channel) (r : Reading) (d : Channel) (m : ℕ) : Type 0 where
  pub killed : p.kill_enable ≡ true → OverSome p c r → Killed d m
  pub kept : c.kill ≡ true → d.kill ≡ true

-- a level that rises to the goal is there if the distance is at most the step, else the step nearer
pub record Rising (step goal n m : ℕ) : Type 0 where
  pub there : goal - n ≤ step → m ≡ goal
  pub nearer : step < goal - n → m ≡ n + step

-- a level that falls to the goal likewise
pub record Falling (step goal n m : ℕ) : Type 0 where
  pub there : n - goal ≤ step → m ≡ goal
  pub nearer : step < n - goal → m ≡ n - step

-- how a level comes to its goal, and isRAMP
pub record Arrives (p : Pass) (c : Channel) (r : Reading) (n : ℕ) (d : Channel) (m : ℕ) : Type 0 where
  -- the goal is the smaller of set and limit steps, or 0 if the channel is off
  pub goal_on : on_after p c r ≡ true → goal_after p c r ≡ min (set_steps p.model c.setpoint.voltage) p.limit_steps
  pub goal_off : on_after p c r ≡ false → goal_after p c r ≡ 0
  -- a level at or below the goal rises if the channel is not blocked, and waits if it is
  pub rises : on_after p c r ≡ true → held_back p c r ≡ false → n ≤ goal_after p c r → Rising p.ramp_step (goal_after p c r) n m
  pub waits : on_after p c r ≡ true → held_back p c r ≡ true → n ≤ goal_after p c r → m ≡ n
  -- a level above the limit is cut to it; a level at or above the goal falls, blocked or not
  pub falls : shut_off p c r ≡ false → goal_after p c r ≤ min n p.limit_steps → Falling p.ramp_step (goal_after p c r) (min n p.limit_steps) m
  -- isRAMP is 0 at the goal, else 1
  pub reached : m ≡ goal_after p c r → d.ramping ≡ false
  pub underway : (m ≢ goal_after p c r) → d.ramping ≡ true

-- the status and the events of a channel after a round
pub record Signals (p : Pass) (c : Channel) (r : Reading) (d : Channel) : Type 0 where
  -- with KillEnable on neither isVLIM nor isCLIM is set; with it off each tells whether the reading is over its limit
  pub limits_hidden : p.kill_enable ≡ true → d.findings.over ≡ neither
  pub voltage_limit : p.kill_enable ≡ false → d.findings.over.voltage ≡ over r.voltage p.limits.voltage
  pub current_limit : p.kill_enable ≡ false → d.findings.over.current ≡ over r.current p.limits.current
  pub inhibit : d.findings.inhibited ≡ r.inhibit_low
  -- a channel that is on regulates voltage or current and not both; one that is off regulates nothing and is out of no bounds
  pub one_mode : d.on ≡ true → d.findings.control.voltage ≡ not d.findings.control.current
  pub off_modes : d.on ≡ false → d.findings.control ≡ neither
  pub off_bounds : d.on ≡ false → d.findings.outside ≡ neither
  -- EOn2Off where isON falls; EEOR where isRAMP falls in a channel that is not shut off
  pub on_to_off : c.on ≡ true → d.on ≡ false → Has 0x0008 d.events
  pub end_of_ramp : c.ramping ≡ true → d.ramping ≡ false → shut_off p c r ≡ false → Has 0x0010 d.events
  -- the reading is what is measured
  pub measured_voltage : d.measured.voltage ≡ r.voltage
  pub measured_current : d.measured.current ≡ r.current

-- what a round leaves of a channel; an open loop sets VoltageSet to 0
pub record Left (p : Pass) (c d : Channel) : Type 0 where
  pub mask : d.mask ≡ c.mask
  pub error : d.error ≡ c.error
  pub emergency : d.emergency ≡ c.emergency
  pub bounds : d.bounds ≡ c.bounds
  pub current_set : d.setpoint.current ≡ c.setpoint.current
  pub voltage_set : p.loop_closed ≡ true → d.setpoint.voltage ≡ c.setpoint.voltage
  pub loop_open : p.loop_closed ≡ false → d.setpoint.voltage ≡ zero

-- all of these; isON after the round is what the judging left
pub record ChannelLaws (p : Pass) (c : Channel) (r : Reading) (n : ℕ) (d : Channel) (m : ℕ) : Type 0 where
  pub reads_on : d.on ≡ on_after p c r
  pub within_limit : m ≤ p.limit_steps
  pub rises_with_leave : RisesWithLeave p c r n d m
  pub off_never_rises : OffNeverRises p c r n m
  pub killed_is_at_zero : KilledIsAtZero p c r d m
  pub arrives : Arrives p c r n d m
  pub events_stay : Kept c.events d.events
  pub signals : Signals p c r d
  pub left : Left p c d
