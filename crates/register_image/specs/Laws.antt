-- What the writer writes, the reader reads.
use Rattle.std.specs.Prelude.{◌≡◌, ℕ, ◌%◌, ◌<◌, ◌≤◌, min, List, Ok, Err}
use Rattle.registers.specs.declared.fault.ModuleFault.{ModuleFault}
use Rattle.registers.specs.Faults.{refusal_2_channel}
use Rattle.module.specs.State.{State, count, word_answer}
use Rattle.register_image.specs.Image.{image_of, reader_word, block_in, block_answer}

-- what a reader finds in the bytes bs of a module in the state s
pub record Tells (s : State) (bs : List ℕ) : Type 0 where
  -- each word as the module answers it, and 0 where the module refuses
  pub answered : (o w : ℕ) → word_answer s o ≡ Ok w → reader_word bs o ≡ Ok w
  pub refused : (o : ℕ) (f : ModuleFault) → o % 2 ≡ 0 → o ≤ 0x3FE → word_answer s o ≡ Err f → reader_word bs o ≡ Ok 0
  -- the blocks of the module's channels, of which it has 12 at most, and no others
  pub placed : (k : ℕ) → k < min (count s) 12 → block_answer bs k ≡ Ok (block_in bs k)
  pub absent : (k : ℕ) → min (count s) 12 ≤ k → block_answer bs k ≡ Err (refusal_2_channel k)

abbrev pub ReadsBack : Type 0
ReadsBack = (s : State) → Tells s (image_of s)
