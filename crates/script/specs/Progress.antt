-- What the lines of a script have said, as data.
use Rattle.std.specs.Prelude.{◌≡◌, ℕ, ◌-◌, cond, List, [], ◌∷◌, ◌++◌, map, Some, None, Ok, Err, vec_items, Option, Result, ◌==◌, ◌≢◌}
use Rattle.std.specs.Borrow.{Bor}
use Rattle.table.specs.declared.records.Conditions.{Conditions}
use Rattle.table.specs.declared.round.Reading.{Reading}
use Rattle.module.specs.declared.block.Access.{Access}
use Rattle.runs.specs.Calls.{Asked, asked, asked_by, blocks, rounds}
use Rattle.script.specs.Commands.{access_line, reading_line, command_line}
use Rattle.script.specs.declared.command.Command.{Command}
use Rattle.script.specs.declared.command.Command.TheVariants as command
use Rattle.script.specs.declared.command.Setup.{Setup}
use Rattle.script.specs.declared.fault.Wrong.{Wrong}
use Rattle.script.specs.declared.fault.Wrong.TheVariants.{EndInBlock, EndInRound, NoMemory, NoModule, SecondModule}
use Rattle.script.specs.declared.reader.Pending.{Pending}
use Rattle.script.specs.declared.reader.Pending.TheVariants as pending
use Rattle.script.specs.declared.reader.Script.{Script}

-- a block or a round, with how many of its lines are to come
pub data Opened : Type 0 where
  nothing : Opened
  block : ℕ → List Access → Opened
  round : ℕ → Conditions → List Reading → Opened

pub record Progress : Type 0 where
  pub setup : Option Setup
  pub calls : List Asked
  pub opened : Opened

abbrev pub opened_by : Pending → Opened
opened_by pending.Nothing = nothing
opened_by (pending.Block g) = block g.left (vec_items g.items)
opened_by (pending.Round c g) = round g.left c (vec_items g.items)

abbrev pub progress : Option Setup → List Asked → Opened → Progress
progress s cs o = record { setup = s; calls = cs; opened = o }

-- what was read, unless there was no memory for it
abbrev pub Reads : Result Progress Wrong → Result Progress Wrong → Type 0
Reads (Ok q) p = p ≡ Ok q
Reads (Err w) p = (w ≢ NoMemory) → p ≡ Err w

abbrev pub called : Progress → Asked → Progress
called p a = progress p.setup (p.calls ++ a ∷ []) nothing

-- a block or a round is a call once none of its lines is to come
abbrev pub opening : Progress → Opened → Progress
opening p nothing = progress p.setup p.calls nothing
opening p (block n xs) = cond (n == 0) (called p (blocks xs)) (progress p.setup p.calls (block n xs))
opening p (round n c rs) = cond (n == 0) (called p (rounds c rs)) (progress p.setup p.calls (round n c rs))

-- a command between calls
abbrev pub begun : Option Setup → Progress → Command → Result Progress Wrong
begun None p (command.Module s) = Ok (progress (Some s) p.calls nothing)
begun None p (command.Access a) = Err NoModule
begun None p (command.Block n) = Err NoModule
begun None p (command.Round c n) = Err NoModule
begun (Some s) p (command.Module t) = Err SecondModule
begun (Some s) p (command.Access a) = Ok (called p (asked_by a))
begun (Some s) p (command.Block n) = Ok (opening p (block n []))
begun (Some s) p (command.Round c n) = Ok (opening p (round n c []))

-- a line that is left out of the calls by what is wrong with it
abbrev pub begun_by : Progress → Result Command Wrong → Result Progress Wrong
begun_by p (Err w) = Err w
begun_by p (Ok c) = begun p.setup p c

abbrev pub block_grown : Progress → ℕ → List Access → Result Access Wrong → Result Progress Wrong
block_grown p n xs (Err w) = Err w
block_grown p n xs (Ok a) = Ok (opening p (block (n - 1) (xs ++ a ∷ [])))

abbrev pub round_grown : Progress → ℕ → Conditions → List Reading → Result Reading Wrong → Result Progress Wrong
round_grown p n c rs (Err w) = Err w
round_grown p n c rs (Ok r) = Ok (opening p (round (n - 1) c (rs ++ r ∷ [])))

-- a line of words after p
abbrev pub taken_by : Opened → Progress → List (Bor (List ℕ)) → Result Progress Wrong
taken_by nothing p ws = begun_by p (command_line ws)
taken_by (block n xs) p ws = block_grown p n xs (access_line ws)
taken_by (round n c rs) p ws = round_grown p n c rs (reading_line ws)

abbrev pub taken : Progress → List (Bor (List ℕ)) → Result Progress Wrong
taken p ws = taken_by p.opened p ws

-- the script where it ends after p
pub record Whole : Type 0 where
  pub setup : Setup
  pub calls : List Asked

abbrev pub whole_of : Script → Whole
whole_of x = record { setup = x.setup; calls = map asked (vec_items x.calls) }

abbrev pub ended_by : Option Setup → List Asked → Opened → Result Whole Wrong
ended_by s cs (block n xs) = Err EndInBlock
ended_by s cs (round n c rs) = Err EndInRound
ended_by None cs nothing = Err NoModule
ended_by (Some s) cs nothing = Ok (record { setup = s; calls = cs })

abbrev pub ended : Progress → Result Whole Wrong
ended p = ended_by p.setup p.calls p.opened

abbrev pub whole_by : Result Script Wrong → Result Whole Wrong
whole_by (Ok x) = Ok (whole_of x)
whole_by (Err w) = Err w
