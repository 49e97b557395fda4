-- Calls and answers as data, and what the rules make of a list of calls.
use Rattle.std.specs.Prelude.{ℕ, Bool, List, [], ◌∷◌, vec_items, Result}
use Rattle.registers.specs.declared.fault.ModuleFault.{ModuleFault}
use Rattle.table.specs.declared.records.Conditions.{Conditions}
use Rattle.table.specs.declared.round.Reading.{Reading}
use Rattle.module.specs.declared.block.Access.{Access}
use Rattle.module.specs.declared.block.BlockFault.{BlockFault}
use Rattle.module.specs.declared.block.Kind.{Kind}
use Rattle.module.specs.declared.block.Kind.TheVariants as kind
use Rattle.module.specs.declared.levels.Levels.{Levels}
use Rattle.module.specs.State.{State, word_answer, write_state, write_answer}
use Rattle.module.specs.Rounds.{round_state, round_answer}
use Rattle.module.specs.Blocks.{block_end}
use Rattle.module.specs.Answered.{answered}
use Rattle.runs.specs.declared.call.Call.{Call}
use Rattle.runs.specs.declared.call.Call.TheVariants as call
use Rattle.runs.specs.declared.call.Answer.{Answer}
use Rattle.runs.specs.declared.call.Answer.TheVariants as answer
use Rattle.runs.specs.declared.call.Reply.{Reply}

-- a call, with all that it brings
pub data Asked : Type 0 where
  reads : ℕ → Asked
  writes : ℕ → ℕ → Asked
  blocks : List Access → Asked
  rounds : Conditions → List Reading → Asked

-- what it is answered; a block's records are as it left them
pub data Said : Type 0 where
  word : Result ℕ ModuleFault → Said
  written : Result (Unit {0}) ModuleFault → Said
  ended : Result ℕ BlockFault → List Access → Said
  turned : Result (Unit {0}) ModuleFault → Said

-- an answer, and the levels that the stage then answers
pub record Told : Type 0 where
  pub said : Said
  pub levels : Levels

abbrev pub asked : Call → Asked
asked (call.Read o) = reads o
asked (call.Write o w) = writes o w
asked (call.Block v) = blocks (vec_items v)
asked (call.Round x v) = rounds x (vec_items v)

-- an access alone is a read or a write

abbrev pub asked_as : Kind → Access → Asked
asked_as kind.Read a = reads a.offset
asked_as kind.Write a = writes a.offset a.word

abbrev pub asked_by : Access → Asked
asked_by a = asked_as a.kind a

abbrev pub said_by : Answer → Said
said_by (answer.Read r) = word r
said_by (answer.Write r) = written r
said_by (answer.Block e v) = ended e (vec_items v)
said_by (answer.Round r) = turned r

abbrev pub told : Reply → Told
told r = record { said = said_by r.answer; levels = r.levels }

-- the state that a call leaves, over a stage that regulates current or does not
abbrev pub call_state : Bool → State → Asked → State
call_state regulates s (reads o) = s
call_state regulates s (writes o w) = write_state s o w
call_state regulates s (blocks xs) = (block_end 0 s xs).state
call_state regulates s (rounds x rs) = round_state regulates s x rs

abbrev pub call_said : State → Asked → Said
call_said s (reads o) = word (word_answer s o)
call_said s (writes o w) = written (write_answer s o w)
call_said s (blocks xs) = ended (block_end 0 s xs).answer (block_end 0 s xs).records
call_said s (rounds x rs) = turned (round_answer s rs)

abbrev pub call_told : Bool → State → Asked → Told
call_told regulates s a = record { said = call_said s a; levels = answered (call_state regulates s a).levels }

-- the state after a list of calls, and what they are told
abbrev pub run_state : Bool → State → List Asked → State
run_state regulates s [] = s
run_state regulates s (a ∷ rest) = run_state regulates (call_state regulates s a) rest

abbrev pub run_told : Bool → State → List Asked → List Told
run_told regulates s [] = []
run_told regulates s (a ∷ rest) = call_told regulates s a ∷ run_told regulates (call_state regulates s a) rest
