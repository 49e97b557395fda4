-- Worked examples of rounds.
use Rattle.std.specs.Prelude.{◌≡◌, ℕ, ◌*◌, ◌<◌, ◌≤◌, Bool, true, false, [], ◌∷◌, pos, bit_and, from_bits, Float}
use Rattle.std.specs.Float.{binary32}
use Rattle.std.specs.Float.Ieee.{of_int}
use Rattle.values.specs.declared.model.Model.{Model}
use Rattle.values.specs.declared.model.Model.TheVariants.{V2000}
use Rattle.values.specs.Ranges.{zero, hundred, stored_maximum}
use Rattle.values.specs.Steps.{limit_steps}
use Rattle.table.specs.declared.change.Change.TheVariants as change
use Rattle.table.specs.declared.setting.Setting.TheVariants as setting
use Rattle.table.specs.declared.records.Channel.{Channel}
use Rattle.table.specs.declared.records.Conditions.{Conditions}
use Rattle.table.specs.declared.round.Reading.{Reading}
use Rattle.table.specs.Changes.{changed}
use Rattle.table.specs.New.{new_channel, new_table}
use Rattle.table.specs.Parts.{with_channel}
use Rattle.table.specs.Reads.{channel_of}
use Rattle.table.specs.Round.{goal_of}
use Rattle.module.specs.RoundLaws.{Placed}
use Rattle.module.specs.Rounds.{round_pass, round_state}
use Rattle.module.specs.State.{State, new_state}

-- a VoltageMax of n per cent is n thousand limit steps; 25 is the pattern 41C80000
pub record PercentIsPercent : Type 0 where
  pub steps : (n : ℕ) → n ≤ 100 → limit_steps (stored_maximum (of_int binary32 (pos n))) ≡ n * 1000
  pub quarter : of_int binary32 (pos 25) ≡ from_bits binary32 0x41C8_0000

-- in a new module of n channels, of which it has 12 at most, the table has the record of each
abbrev pub NewPlaced : Type 0
NewPlaced = (m : Model) (n k : ℕ) → n ≤ 12 → k < n → Placed (new_state m n) k

-- a new channel of 2,000 V, set to 1,000 V and switched on
abbrev pub rising_channel : Channel
rising_channel = changed (changed (new_channel V2000) (change.Set (setting.Voltage (from_bits binary32 0x447A_0000)))) (change.Switch true)

-- a module of that channel alone, at a level; VoltageRampSpeed is 1 and KillEnable is off
abbrev pub rising_from : ℕ → State
rising_from level = record { table = with_channel (new_table V2000) 0 rising_channel; levels = level ∷ [] }

-- all is good, and VoltageMax is so many per cent
abbrev pub all_good : Float → Conditions
all_good percent = record { temperature = zero; supply_good = true; loop_closed = true; maxima = record { voltage = percent; current = hundred } }

-- it measures nothing, and is not inhibited
abbrev pub at_rest : Reading
at_rest = record { voltage = zero; current = zero; inhibit_low = false }

abbrev pub one_round : Bool → Float → State → State
one_round regulates percent s = round_state regulates s (all_good percent) (at_rest ∷ [])

-- whatever the stage, such a channel rises by 100 steps in each round, to a goal of 50,000
pub record RisesByHundreds (regulates : Bool) : Type 0 where
  pub goal : goal_of (round_pass regulates (rising_from 0) (all_good hundred)) rising_channel ≡ 50000
  pub once : (one_round regulates hundred (rising_from 0)).levels ≡ 100 ∷ []
  pub twice : (one_round regulates hundred (one_round regulates hundred (rising_from 0))).levels ≡ 200 ∷ []

-- under a VoltageMax of 25 its goal is 25,000; there isRAMP is 0; there is no input error
pub record StopsAtQuarter (regulates : Bool) (percent : Float) : Type 0 where
  pub goal : goal_of (round_pass regulates (rising_from 0) (all_good percent)) rising_channel ≡ 25000
  pub no_status : (channel_of (one_round regulates percent (rising_from 0)).table 0).error ≡ false
  pub no_event : bit_and (channel_of (one_round regulates percent (rising_from 0)).table 0).events 0x0004 ≡ 0
  pub arrives : (one_round regulates percent (rising_from 24950)).levels ≡ 25000 ∷ []
  pub stops : (channel_of (one_round regulates percent (rising_from 24950)).table 0).ramping ≡ false

pub record FirstRounds : Type 0 where
  pub rises : (regulates : Bool) → RisesByHundreds regulates
  pub quarter : (regulates : Bool) → StopsAtQuarter regulates (from_bits binary32 0x41C8_0000)
