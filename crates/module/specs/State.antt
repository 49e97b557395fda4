-- The state of a module: its table, and the levels that its stage answers.
use Rattle.std.specs.Prelude.{ℕ, List, length, replicate, Ok, Err, Result, slice_index, slice_set}
use Rattle.values.specs.declared.model.Model.{Model}
use Rattle.registers.specs.declared.fault.ModuleFault.{ModuleFault}
use Rattle.table.specs.declared.records.Table.{Table}
use Rattle.table.specs.New.{new_table}
use Rattle.table.specs.declared.carrying.Drive.{Drive}
use Rattle.table.specs.declared.carrying.Drive.TheVariants as drive
use Rattle.table.specs.Reads.{read_answer}
use Rattle.table.specs.Writes.{collected, written_table, written_answer}

pub record State : Type 0 where
  pub table : Table
  pub levels : List ℕ

-- the channels of a module are those of its stage
abbrev pub count : State → ℕ
count s = length s.levels

-- the level of channel k
abbrev pub level_of : State → ℕ → ℕ
level_of s k = slice_index s.levels k

-- the channel events are collected
abbrev pub collected_state : State → State
collected_state s = record { table = collected (count s) s.table; levels = s.levels }

-- the answer to a read of the word at the offset o
abbrev pub word_answer : State → ℕ → Result ℕ ModuleFault
word_answer s o = read_answer (count s) s.table o

-- a new module of n channels: every level is 0
abbrev pub new_state : Model → ℕ → State
new_state m n = record { table = new_table m; levels = replicate n 0 }

-- every level is 0
abbrev pub zeros : List ℕ → List ℕ
zeros ls = replicate (length ls) 0

-- the levels after an order that drives some of them to 0
abbrev pub driven_by : List ℕ → Drive → List ℕ
driven_by ls drive.Nothing = ls
driven_by ls (drive.ToZero k) = slice_set ls k 0
driven_by ls drive.AllToZero = zeros ls

abbrev pub write_levels : List ℕ → Result Drive ModuleFault → List ℕ
write_levels ls (Ok d) = driven_by ls d
write_levels ls (Err f) = ls

abbrev pub done : Result Drive ModuleFault → Result (Unit {0}) ModuleFault
done (Ok d) = Ok tt
done (Err f) = Err f

-- a write of the word w at the offset o
abbrev pub write_state : State → ℕ → ℕ → State
write_state s o w = record { table = written_table (count s) s.table o w; levels = write_levels s.levels (written_answer (count s) s.table o w) }

abbrev pub write_answer : State → ℕ → ℕ → Result (Unit {0}) ModuleFault
write_answer s o w = done (written_answer (count s) s.table o w)
