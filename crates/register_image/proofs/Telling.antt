-- What a reader finds in the image of a module.
use Rattle.std.proofs.Common.{◌≡◌, ℕ, ◌+◌, ◌-◌, ◌*◌, ◌/◌, ◌%◌, ◌^◌, ◌<◌, ◌≤◌, min, Bool, true, false, cond, ltb, List, length, Ok, Err, Result, refl, ap, ◌∙◌, arith, pow_pos, pow_mono, pow-add}
use native.Mathlib.Nat.{div-eq_of_lt}
use lib.Pow.{ones_lt, ones_split}
use Rattle.std.proofs.lemmas.Nat.{shr_high}
use Rattle.std.proofs.lemmas.Bool.{lt-ltb, cond_both}
use Rattle.std.proofs.lemmas.Bool.Decides.{nat_tests}
use Rattle.std.specs.Result.{result_unwrap_or}
use Rattle.registers.specs.declared.fault.ModuleFault.{ModuleFault}
use Rattle.registers.specs.declared.place.Place.{Place}
use Rattle.registers.specs.Faults.{refusal_2_channel}
use Rattle.registers.specs.Map.{outside}
use Rattle.table.specs.declared.records.Table.{Table}
use Rattle.table.specs.Reads.{read_at, placed_channels}
use Rattle.module.specs.State.{State, count}
use Rattle.register_image.specs.Image.{image_word, image_of, written, sized, word_in, placed_in, Block, block_in, block_answer}
use Rattle.register_image.specs.Laws.{Tells}
use Rattle.register_image.proofs.Bytes.{Filled, filled_all, long, word_in_lem, word_back}

-- an offset that a module answers is not outside
answered_inside : (n : ℕ) (t : Table) (b : Bool) (f : ModuleFault) (p : Result Place ModuleFault) (w : ℕ) → read_at n t (cond b (Err f) p) ≡ Ok w → b ≡ false
answered_inside n t true f p w h = cc
answered_inside n t false f p w h = refl

inside_even : (o : ℕ) → outside o ≡ false → o % 2 ≡ 0
inside_even o h = grind (arith, nat_tests)

inside_small : (o : ℕ) → outside o ≡ false → o ≤ 0x3FE
inside_small o h = grind (arith, nat_tests)

-- of the low m bits each is 1
low_bit : (m k : ℕ) → k < m → (2 ^ m - 1) / 2 ^ k % 2 ≡ 1
low_bit m k h =
    let j : ℕ = m - k - 1 in
    let e : m ≡ 1 + j + k = omega arith in
    let two : 2 ^ (1 + j) ≡ 2 * 2 ^ j = pow-add 2 1 j in
    let some : 0 < 2 ^ j = pow_pos j in
    let high : (2 ^ (1 + j + k) - 1) / 2 ^ k ≡ 2 ^ (1 + j) - 1 =
    ap (λ (n : ℕ). n / 2 ^ k) (ones_split (1 + j) k) ∙ shr_high (2 ^ (1 + j) - 1) k (2 ^ k - 1) (ones_lt k) in
    ap (λ (n : ℕ). (2 ^ n - 1) / 2 ^ k % 2) e ∙ ap (λ (n : ℕ). n % 2) high ∙ omega arith

-- and each above them is 0
high_bit : (m k : ℕ) → m ≤ k → (2 ^ m - 1) / 2 ^ k % 2 ≡ 0
high_bit m k h =
    let small : 2 ^ m - 1 < 2 ^ k = omega (arith, ones_lt m, pow_mono {i = m} {j = k} h) in
    ap (λ (n : ℕ). n % 2) (div-eq_of_lt small)

module _ (s : State) where
  placed_word : word_in (image_of s) 0x3C ≡ placed_channels (count s)
  placed_word = word_in_lem (image_word s) 0x3C refl (omega arith)

  placed_bit : (k b : ℕ) → placed_channels (count s) / 2 ^ k % 2 ≡ b → word_in (image_of s) 0x3C / 2 ^ k % 2 ≡ b
  placed_bit k b h = ap (λ (w : ℕ). w / 2 ^ k % 2) placed_word ∙ h

  placed_back : (k : ℕ) → k < min (count s) 12 → block_answer (image_of s) k ≡ Ok (block_in (image_of s) k)
  placed_back k h =
      let few : k < 12 = omega arith in
      let bit = placed_bit k 1 (low_bit (min (count s) 12) k h) in
      let p : placed_in (image_of s) k ≡ true = grind (arith, nat_tests) in
      let low : ltb k 12 ≡ true = lt-ltb k 12 few in
      simp (low, long (image_word s), p)

  absent_back : (k : ℕ) → min (count s) 12 ≤ k → block_answer (image_of s) k ≡ Err (refusal_2_channel k)
  absent_back k h =
      let bit = placed_bit k 0 (high_bit (min (count s) 12) k h) in
      let p : placed_in (image_of s) k ≡ false = grind (arith, nat_tests) in
      let inner : sized (length (image_of s)) (cond (placed_in (image_of s) k) (Ok (block_in (image_of s) k)) (Err (refusal_2_channel k))) ≡ Err (refusal_2_channel k) = simp (long (image_word s), p) in
      cond_both (ltb k 12) _ (Err (refusal_2_channel k)) (λ (r : Result Block ModuleFault). r ≡ Err (refusal_2_channel k)) (λ t. inner) (λ t. refl)

  pub tells_image : Tells s (image_of s)
  tells_image = record {
    answered = λ o w h.
        let q : outside o ≡ false = answered_inside (count s) s.table (outside o) _ _ w h in
        word_back (image_word s) o (inside_even o q) (inside_small o q) ∙ ap (λ (r : Result ℕ ModuleFault). Ok (result_unwrap_or r 0)) h;
    refused = λ o f even small h. word_back (image_word s) o even small ∙ ap (λ (r : Result ℕ ModuleFault). Ok (result_unwrap_or r 0)) h;
    placed = placed_back;
    absent = absent_back;
  }

-- the buffer xs was filled, and became bs
module _ (s : State) (xs bs : List ℕ) (lx : length xs ≡ 1024) (lb : length bs ≡ 1024) (h : Filled (image_word s) 1024 bs) where
  all : bs ≡ image_of s
  all = filled_all (image_word s) bs lb h

  pub whole_image : bs ≡ written s xs
  whole_image = all ∙ simp lx

  pub whole_back : Tells s bs
  whole_back = rw all (tells_image s)
