-- Which numbers each call can be refused with. The stage's 9 is none of them.
use Rattle.std.specs.Prelude.{ℕ, ◌≤◌, List, Ok, Err, Result}
use Rattle.registers.specs.declared.fault.ModuleFault.{ModuleFault}
use Rattle.registers.specs.Faults.{number}
use Rattle.table.specs.declared.round.Reading.{Reading}
use Rattle.module.specs.State.{State, word_answer, write_answer}
use Rattle.module.specs.Rounds.{round_answer}

-- a refusal has a number from the first to the last
abbrev pub Numbers : {A : Type 0} → ℕ → ℕ → Result A ModuleFault → Type 0
Numbers first last (Ok x) = Unit {0}
Numbers first last (Err f) = (first ≤ number f) × (number f ≤ last)

pub record CallNumbers : Type 0 where
  pub reads : (s : State) (o : ℕ) → Numbers 1 2 (word_answer s o)
  pub writes : (s : State) (o w : ℕ) → Numbers 1 6 (write_answer s o w)
  pub rounds : (s : State) (rs : List Reading) → Numbers 7 7 (round_answer s rs)
