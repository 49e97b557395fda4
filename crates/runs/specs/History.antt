-- The history of a run: its accesses and rounds in order, with what each was answered.
use Rattle.std.specs.Prelude.{ℕ, zero, suc, Bool, List, [], ◌∷◌, ◌++◌, Some, None, Ok, Err, Option, Result}
use Rattle.registers.specs.declared.fault.ModuleFault.{ModuleFault}
use Rattle.table.specs.declared.records.Conditions.{Conditions}
use Rattle.table.specs.declared.round.Reading.{Reading}
use Rattle.module.specs.declared.block.Access.{Access}
use Rattle.module.specs.declared.block.BlockFault.{BlockFault}
use Rattle.module.specs.declared.block.Kind.{Kind}
use Rattle.module.specs.declared.block.Kind.TheVariants as kind
use Rattle.module.specs.State.{State, write_state}
use Rattle.module.specs.Rounds.{round_state}
use Rattle.runs.specs.Calls.{Asked, reads, writes, blocks, rounds, Said, word, written, ended, turned, Told}

pub data Event : Type 0 where
  read : ℕ → Result ℕ ModuleFault → Event
  write : ℕ → ℕ → Result (Unit {0}) ModuleFault → Event
  round : Conditions → List Reading → Result (Unit {0}) ModuleFault → Event

-- an access of a block that was done, from its record as the block left it
abbrev pub done_as : Kind → Access → Event
done_as kind.Read a = read a.offset (Ok a.word)
done_as kind.Write a = write a.offset a.word (Ok tt)

abbrev pub done : Access → Event
done a = done_as a.kind a

-- the access of a block that was refused
abbrev pub refused_as : Kind → Access → ModuleFault → Event
refused_as kind.Read a f = read a.offset (Err f)
refused_as kind.Write a f = write a.offset a.word (Err f)

abbrev pub refused : Access → ModuleFault → Event
refused a f = refused_as a.kind a f

-- the accesses of a block count singly, as far as it went, the refused one too:
-- n of the accesses xs were done and left the records ys, and the next was refused, if f says so
abbrev pub block_history : ℕ → Option ModuleFault → List Access → List Access → List Event
block_history zero None xs ys = []
block_history zero (Some f) [] ys = []
block_history zero (Some f) (x ∷ xs) ys = refused x f ∷ []
block_history (suc n) f [] ys = []
block_history (suc n) f (x ∷ xs) [] = []
block_history (suc n) f (x ∷ xs) (y ∷ ys) = done y ∷ block_history n f xs ys

abbrev pub done_in : Result ℕ BlockFault → ℕ
done_in (Ok n) = n
done_in (Err b) = b.index

abbrev pub fault_in : Result ℕ BlockFault → Option ModuleFault
fault_in (Ok n) = None
fault_in (Err b) = Some b.fault

-- what happened in one call; an answer of another kind than the call's does not come
abbrev pub happened : Asked → Said → List Event
happened (reads o) (word r) = read o r ∷ []
happened (reads o) (written r) = []
happened (reads o) (ended r ys) = []
happened (reads o) (turned r) = []
happened (writes o w) (word r) = []
happened (writes o w) (written r) = write o w r ∷ []
happened (writes o w) (ended r ys) = []
happened (writes o w) (turned r) = []
happened (blocks xs) (word r) = []
happened (blocks xs) (written r) = []
happened (blocks xs) (ended r ys) = block_history (done_in r) (fault_in r) xs ys
happened (blocks xs) (turned r) = []
happened (rounds x rs) (word r) = []
happened (rounds x rs) (written r) = []
happened (rounds x rs) (ended r ys) = []
happened (rounds x rs) (turned r) = round x rs r ∷ []

-- the history of calls and what they were told
abbrev pub history : List Asked → List Told → List Event
history [] ts = []
history (a ∷ rest) [] = []
history (a ∷ rest) (t ∷ ts) = happened a t.said ++ history rest ts

-- what the rules make of an event, over a stage that regulates current or does not
abbrev pub event_state : Bool → State → Event → State
event_state regulates s (read o r) = s
event_state regulates s (write o w r) = write_state s o w
event_state regulates s (round x rs r) = round_state regulates s x rs

-- the state after a history
abbrev pub after : Bool → State → List Event → State
after regulates s [] = s
after regulates s (e ∷ h) = after regulates (event_state regulates s e) h
