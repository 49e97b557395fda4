-- Worked figures of a module of one channel and 2,000 V: what is asked, and what comes of it.
use Rattle.std.specs.Prelude.{◌≡◌, ℕ, ◌+◌, ◌/◌, ◌%◌, Bool, false, not, ◌||◌, List, [], ◌∷◌, map, Ok, Err, Result, ◌==◌, bit_and, from_bits, slice_index}
use Rattle.std.specs.Float.{binary32}
use Rattle.values.specs.declared.model.Model.TheVariants.{V2000}
use Rattle.values.specs.Ranges.{hundred}
use Rattle.values.specs.Steps.{set_steps, ramp_step}
use Rattle.registers.specs.declared.fault.ModuleFault.{ModuleFault}
use Rattle.registers.specs.declared.place.ChannelValue.TheVariants as cv
use Rattle.registers.specs.declared.place.ModuleValue.TheVariants as mv
use Rattle.registers.specs.declared.place.ValueRegister.{ValueRegister}
use Rattle.registers.specs.declared.place.ValueRegister.TheVariants as vr
use Rattle.registers.specs.Faults.{number}
use Rattle.registers.specs.Offsets.{value_offset}
use Rattle.table.specs.declared.records.Channel.{Channel}
use Rattle.table.specs.Reads.{channel_of}
use Rattle.table.specs.Round.{goal_of}
use Rattle.module.specs.RoundLawsExamples.{rising_channel, rising_from, all_good, one_round}
use Rattle.module.specs.Rounds.{round_pass}
use Rattle.module.specs.State.{State, new_state, write_state, write_answer}

-- b is the pattern of a binary32 number
pub data Asked : Type 0 where
  -- b is written to VoltageSet of channel 0, or to VoltageRampSpeed, the upper half first, of a new module
  voltage speed : ℕ → Asked
  -- a round of a new module is given b as VoltageMax
  maximum : ℕ → Asked
  -- a channel that is on and set to 1,000 V is given a round with b as VoltageMax
  goal_under : ℕ → Asked
  -- such a channel, at level 0 and speed 1, is given so many rounds with both maxima 100, readings of 0, the loop closed and no inhibit
  level_after : ℕ → Asked

pub data Outcome : Type 0 where
  -- the write is accepted, and what is stored counts so many steps; or what a maximum counts
  steps : ℕ → Outcome
  -- the write is refused with this number
  refused : ℕ → Outcome
  -- the goal in steps, and whether there is an input error after the round
  goal : ℕ → Bool → Outcome
  level : ℕ → Outcome

abbrev pub new_module : State
new_module = new_state V2000 1

abbrev pub upper_written : ValueRegister → ℕ → State
upper_written r b = write_state new_module (value_offset r) (b / 65536)

abbrev pub both_written : ValueRegister → ℕ → State
both_written r b = write_state (upper_written r b) (value_offset r + 2) (b % 65536)

-- the answer to the lower half
abbrev pub lower_answer : ValueRegister → ℕ → Result (Unit {0}) ModuleFault
lower_answer r b = write_answer (upper_written r b) (value_offset r + 2) (b % 65536)

abbrev pub answered : Result (Unit {0}) ModuleFault → ℕ → Outcome
answered (Ok x) n = steps n
answered (Err f) n = refused (number f)

abbrev pub voltage_set : ValueRegister
voltage_set = vr.Channel 0 cv.VoltageSet

abbrev pub ramp_speed : ValueRegister
ramp_speed = vr.Module mv.VoltageRampSpeed

abbrev pub after_rounds : Bool → ℕ → State
after_rounds regulates ℕ.zero = rising_from 0
after_rounds regulates (ℕ.suc n) = one_round regulates hundred (after_rounds regulates n)

-- isIERR or EIERR
abbrev pub input_error : Channel → Bool
input_error c = c.error || not (bit_and c.events 0x0004 == 0)

-- over a stage that regulates current or does not
abbrev pub outcome : Bool → Asked → Outcome
outcome regulates (voltage b) =
    answered (lower_answer voltage_set b) (set_steps V2000 (channel_of (both_written voltage_set b).table 0).setpoint.voltage)
outcome regulates (speed b) = answered (lower_answer ramp_speed b) (ramp_step (both_written ramp_speed b).table.speed)
outcome regulates (maximum b) = steps (round_pass regulates new_module (all_good (from_bits binary32 b))).limit_steps
outcome regulates (goal_under b) =
    goal (goal_of (round_pass regulates (rising_from 0) (all_good (from_bits binary32 b))) rising_channel)
    (input_error (channel_of (one_round regulates (from_bits binary32 b) (rising_from 0)).table 0))
outcome regulates (level_after n) = level (slice_index (after_rounds regulates n).levels 0)

pub record Row : Type 0 where
  pub asked : Asked
  pub answer : Outcome

abbrev row : Asked → Outcome → Row
row a o = record { asked = a; answer = o }

abbrev pub figures : List Row
figures =
    row (voltage 0x447A_0000) (steps 50000)
    ∷ row (voltage 0x4148_0000) (steps 625)
    ∷ row (voltage 0x0000_0001) (steps 0)
    ∷ row (voltage 0x8000_0000) (steps 0)
    ∷ row (voltage 0x44FA_0000) (steps 100000)
    ∷ row (voltage 0x44FA_0001) (refused 5)
    ∷ row (voltage 0x7F80_0000) (refused 5)
    ∷ row (voltage 0x7FC0_0000) (refused 5)
    ∷ row (speed 0x3D23_D70A) (steps 3)
    ∷ row (speed 0x3D23_D709) (refused 5)
    ∷ row (speed 0x4120_0000) (steps 1000)
    ∷ row (maximum 0x41C8_0000) (steps 25000)
    ∷ row (goal_under 0x41C8_0000) (goal 25000 false)
    ∷ row (level_after 2) (level 200)
    ∷ []

-- each row's answer is the outcome of what it asks, whatever the stage
abbrev pub FiguresStand : Type 0
FiguresStand = (regulates : Bool) → map (λ (r : Row). outcome regulates r.asked) figures ≡ map (λ (r : Row). r.answer) figures
