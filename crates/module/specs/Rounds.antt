-- What a round does to the state of a module, and what it answers.
use Rattle.std.specs.Prelude.{ℕ, ◌+◌, Bool, false, cond, List, [], ◌∷◌, length, Ok, Err, Result, ◌==◌, slice_index, slice_index_or, slice_set}
use Rattle.std.specs.Float.{nan}
use Rattle.registers.specs.declared.fault.ModuleFault.{ModuleFault}
use Rattle.registers.specs.Faults.{refusal_7}
use Rattle.table.specs.declared.records.Conditions.{Conditions}
use Rattle.table.specs.declared.round.Pass.{Pass}
use Rattle.table.specs.declared.round.Reading.{Reading}
use Rattle.table.specs.Parts.{with_channel}
use Rattle.table.specs.Reads.{channel_of}
use Rattle.table.specs.Round.{begun, pass_of, channel_after, level_after}
use Rattle.module.specs.State.{State, count, collected_state}

abbrev pub no_reading : Reading
no_reading = record { voltage = nan; current = nan; inhibit_low = false }

-- the reading of channel k
abbrev pub reading_of : List Reading → ℕ → Reading
reading_of rs k = slice_index_or rs k no_reading

-- channel k and its level take their part of the round
abbrev pub stepped : Pass → State → ℕ → Reading → State
stepped p s k r = record {
  table = with_channel s.table k (channel_after p (channel_of s.table k) r (slice_index s.levels k));
  levels = slice_set s.levels k (level_after p (channel_of s.table k) r (slice_index s.levels k));
}

-- the channels from k upwards, each with its reading
abbrev pub stepped_from : Pass → State → ℕ → List Reading → State
stepped_from p s k [] = s
stepped_from p s k (r ∷ rs) = stepped_from p (stepped p s k r) (k + 1) rs

-- there is one reading for each channel
abbrev pub one_each : State → List Reading → Bool
one_each s rs = length rs == count s

abbrev pub begun_state : State → Conditions → State
begun_state s x = record { table = begun s.table x; levels = s.levels }

-- what the round fixes, over a stage that regulates current or does not
abbrev pub round_pass : Bool → State → Conditions → Pass
round_pass regulates s x = pass_of regulates (begun s.table x)

abbrev pub accepted : Bool → State → Conditions → List Reading → State
accepted regulates s x rs = collected_state (stepped_from (round_pass regulates s x) (begun_state s x) 0 rs)

abbrev pub round_state : Bool → State → Conditions → List Reading → State
round_state regulates s x rs = cond (one_each s rs) (accepted regulates s x rs) s

abbrev pub round_answer : State → List Reading → Result (Unit {0}) ModuleFault
round_answer s rs = cond (one_each s rs) (Ok tt) (Err (refusal_7 (length rs)))
