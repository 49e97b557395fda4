-- What a block of accesses does and answers.
use Rattle.std.specs.Prelude.{ℕ, ◌+◌, List, [], ◌∷◌, Ok, Err, Result}
use Rattle.registers.specs.declared.fault.ModuleFault.{ModuleFault}
use Rattle.module.specs.declared.block.Access.{Access}
use Rattle.module.specs.declared.block.BlockFault.{BlockFault}
use Rattle.module.specs.declared.block.Kind.{Kind}
use Rattle.module.specs.declared.block.Kind.TheVariants.{Read, Write}
use Rattle.module.specs.State.{State, word_answer, write_state, write_answer}

-- the index of the refused access, and the module's fault whole
abbrev pub block_fault : ℕ → ModuleFault → BlockFault
block_fault i f = record { index = i; fault = f }

-- a read leaves the state
abbrev pub access_state_as : Kind → State → Access → State
access_state_as Read s a = s
access_state_as Write s a = write_state s a.offset a.word

abbrev pub access_state : State → Access → State
access_state s a = access_state_as a.kind s a

-- a read puts its word into its record
abbrev pub read_done : ℕ → Result ℕ ModuleFault → Result Access ModuleFault
read_done o (Ok w) = Ok (record { kind = Read; offset = o; word = w })
read_done o (Err f) = Err f

abbrev pub write_done : Access → Result (Unit {0}) ModuleFault → Result Access ModuleFault
write_done a (Ok u) = Ok a
write_done a (Err f) = Err f

abbrev pub access_answer_as : Kind → State → Access → Result Access ModuleFault
access_answer_as Read s a = read_done a.offset (word_answer s a.offset)
access_answer_as Write s a = write_done a (write_answer s a.offset a.word)

abbrev pub access_answer : State → Access → Result Access ModuleFault
access_answer s a = access_answer_as a.kind s a

-- the state, the records and the answer that a block leaves
pub record BlockEnd : Type 0 where
  pub state : State
  pub records : List Access
  pub answer : Result ℕ BlockFault

abbrev pub end_of : State → List Access → Result ℕ BlockFault → BlockEnd
end_of s xs r = record { state = s; records = xs; answer = r }

-- the record a is done, and the rest ends as e
abbrev pub behind : Access → BlockEnd → BlockEnd
behind a e = end_of e.state (a ∷ e.records) e.answer

-- the access a was answered by r; the state is s then, and the rest would end as e
abbrev pub goes_on : ℕ → State → Access → List Access → BlockEnd → Result Access ModuleFault → BlockEnd
goes_on i s a xs e (Ok b) = behind b e
goes_on i s a xs e (Err f) = end_of s (a ∷ xs) (Err (block_fault i f))

-- the accesses from index i on: it stops at the first refusal; that record and later ones keep their words
abbrev pub block_end : ℕ → State → List Access → BlockEnd
block_end i s [] = end_of s [] (Ok i)
block_end i s (a ∷ xs) = goes_on i (access_state s a) a xs (block_end (i + 1) (access_state s a) xs) (access_answer s a)
