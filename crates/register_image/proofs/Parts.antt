-- The block of a placed channel as a part of an image.
use Rattle.std.proofs.Common.{◌≡◌, ℕ, ◌+◌, ◌-◌, ◌/◌, ◌%◌, ◌^◌, ◌<◌, true, ltb, List, length, take, drop, Ok, Result, sym, ap, ◌∙◌, arith}
use Rattle.std.proofs.lemmas.Bool.Decides.{nat_tests}
use Rattle.registers.specs.declared.fault.ModuleFault.{ModuleFault}
use Rattle.std.proofs.lemmas.Bool.{lt-ltb}
use Rattle.registers.specs.Map.{channel_begins}
use Rattle.register_image.specs.Image.{Block, reader_word, word_in, placed_in, block_answer}
use Rattle.register_image.proofs.Bytes.{sized_ok}

-- the block of channel k, of n bytes
abbrev part : List ℕ → ℕ → ℕ → Result Block ModuleFault
part bs k n = Ok (record { begins = channel_begins k; held = take n (drop (channel_begins k) bs) })

module _ (bs : List ℕ) (k w : ℕ) (read : Ok w ≡ reader_word bs 0x3C) (few : k < 12) (bit : w / 2 ^ k % 2 ≡ 0 → ⊥) where
  placed : placed_in bs k ≡ true
  placed =
      let n : length bs ≡ 1024 = sized_ok (length bs) w _ read in
      let e : w ≡ word_in bs 0x3C = grind (arith, nat_tests) in
      let one : w / 2 ^ k % 2 ≡ 1 = omega arith in
      let same : word_in bs 0x3C / 2 ^ k % 2 ≡ 1 = ap (λ (v : ℕ). v / 2 ^ k % 2) (sym e) ∙ one in
      grind (arith, nat_tests)

  pub placed_block : part bs k (channel_begins k + 0x30 - channel_begins k) ≡ block_answer bs k
  placed_block =
      let n : length bs ≡ 1024 = sized_ok (length bs) w _ read in
      let e : channel_begins k + 0x30 - channel_begins k ≡ 0x30 = omega arith in
      let low : ltb k 12 ≡ true = lt-ltb k 12 few in
      ap (part bs k) e ∙ simp (low, n, placed)
