-- What holds of every round: s is the state before it and u the state after it, x its conditions, rs its readings.
use Rattle.std.specs.Prelude.{◌≡◌, ℕ, ◌<◌, ◌≤◌, Bool, true, List, length}
use Rattle.values.specs.Ranges.{stored_maximum}
use Rattle.values.specs.Steps.{limit_steps}
use Rattle.table.specs.declared.records.Conditions.{Conditions}
use Rattle.table.specs.declared.round.Reading.{Reading}
use Rattle.table.specs.Reads.{channel_of}
use Rattle.table.specs.RoundLaws.{Kept, ChannelLaws}
use Rattle.module.specs.Rounds.{reading_of, round_pass}
use Rattle.module.specs.State.{State, count, level_of}

-- channel k is one of the module's, and the table has its record
abbrev pub Placed : State → ℕ → Type 0
Placed s k = (k < count s) × (k < length s.table.channels)

-- what an accepted round does to the levels, and to each channel
pub record RoundLaws (regulates : Bool) (s : State) (x : Conditions) (rs : List Reading) (u : State) : Type 0 where
  -- no level is above the limit steps of the VoltageMax that the round brought
  pub within_limit : (k : ℕ) → k < count s → level_of u k ≤ limit_steps (stored_maximum x.maxima.voltage)
  -- the laws of one channel hold of each, with its own record, reading and level
  pub each_channel : (k : ℕ) → Placed s k → ChannelLaws (round_pass regulates s x) (channel_of s.table k) (reading_of rs k) (level_of s k) (channel_of u.table k) (level_of u k)

-- no round, accepted or refused, resets an event or a stored kill, or takes a channel away
pub record EventsStay (s u : State) : Type 0 where
  pub module_events : Kept s.table.events u.table.events
  pub collected_events : Kept s.table.channel_events u.table.channel_events
  pub channel_events : (k : ℕ) → Placed s k → Kept (channel_of s.table k).events (channel_of u.table k).events
  pub kills : (k : ℕ) → Placed s k → (channel_of s.table k).kill ≡ true → (channel_of u.table k).kill ≡ true
  pub channels : (k : ℕ) → Placed s k → Placed u k
  -- a held half waits through a round
  pub half : u.table.held ≡ s.table.held
