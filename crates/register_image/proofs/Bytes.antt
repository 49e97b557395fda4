-- The bytes of some words, and the words read back.
use Rattle.std.proofs.Common.{◌≡◌, ℕ, ◌+◌, ◌-◌, ◌/◌, ◌%◌, ◌<◌, ◌≤◌, List, length, get_or, set, Ok, Result, sym, ap, ◌∙◌, arith, length-set, get_or-set_other, get_or-set_same, below_more}
use Rattle.std.proofs.lemmas.List.FromFn.{get_or-map-range_with_len, length-map-range_with_len, fill_by_all}
use Rattle.std.proofs.lemmas.Bool.Decides.{nat_tests}
use Rattle.registers.specs.declared.fault.ModuleFault.{ModuleFault}
use Rattle.register_image.specs.Image.{byte_of, bytes_of, with_word, sized, word_in, reader_word}

-- of the buffer xs, the first n bytes are those of the words f
abbrev pub Filled : (ℕ → ℕ) → ℕ → List ℕ → Type 0
Filled f n xs = (j : ℕ) → j < n → get_or xs j 0 ≡ byte_of f j

module _ (f : ℕ → ℕ) where
  high : (o : ℕ) → o % 2 ≡ 0 → byte_of f o ≡ f o / 256
  high o h = simp h

  low : (o : ℕ) → o % 2 ≡ 0 → byte_of f (o + 1) ≡ f o % 256
  low o h =
      let m : (o + 1) % 2 ≡ 1 = omega arith in
      let q : o + 1 - 1 ≡ o = omega arith in
      simp (m, q)

  byte_at : (j : ℕ) → j < 1024 → get_or (bytes_of f) j 0 ≡ byte_of f j
  unfolding bytes_of
  byte_at j h = get_or-map-range_with_len (byte_of f) 0 1024 j j 0 h (omega arith)

  pub filled_all : (xs : List ℕ) → length xs ≡ 1024 → Filled f 1024 xs → xs ≡ bytes_of f
  unfolding bytes_of
  filled_all xs l h = fill_by_all (byte_of f) xs 1024 0 l h

  -- one word more, at the even offset o
  more : (xs : List ℕ) (o w : ℕ) → o % 2 ≡ 0 → o + 1 < length xs → w ≡ f o → Filled f o xs → Filled f (o + 2) (with_word xs o w)
  more xs o w even l e inv j h =
      let ys : List ℕ = set xs o (w / 256) in
      let P : ℕ → Type 0 = λ i. get_or (with_word xs o w) i 0 ≡ byte_of f i in
      below_more P (o + 1)
      (below_more P o
      (λ i b. get_or-set_other ys (o + 1) i (w % 256) 0 (omega arith) ∙ get_or-set_other xs o i (w / 256) 0 (omega arith) ∙ inv i b)
      (get_or-set_other ys (o + 1) o (w % 256) 0 (omega arith) ∙ get_or-set_same xs o (w / 256) 0 (omega arith) ∙ ap (λ n. n / 256) e ∙ sym (high o even)))
      (get_or-set_same ys (o + 1) (w % 256) 0 (omega (arith, length-set xs o (w / 256))) ∙ ap (λ n. n % 256) e ∙ sym (low o even))
      j (omega arith)

  pub filled_more : (xs ys : List ℕ) (o w : ℕ) → o % 2 ≡ 0 → o + 1 < length xs → w ≡ f o → ys ≡ with_word xs o w → Filled f o xs → Filled f (o + 2) ys
  filled_more xs ys o w even l e put inv = rw put (more xs o w even l e inv)

  pub long : length (bytes_of f) ≡ 1024
  unfolding bytes_of
  long = length-map-range_with_len (byte_of f) 0 1024

  pub word_in_lem : (o : ℕ) → o % 2 ≡ 0 → o ≤ 0x3FE → word_in (bytes_of f) o ≡ f o
  word_in_lem o even small =
      let a : get_or (bytes_of f) o 0 ≡ f o / 256 = byte_at o (omega arith) ∙ high o even in
      let b : get_or (bytes_of f) (o + 1) 0 ≡ f o % 256 = byte_at (o + 1) (omega arith) ∙ low o even in
      omega arith

  pub word_back : (o : ℕ) → o % 2 ≡ 0 → o ≤ 0x3FE → reader_word (bytes_of f) o ≡ Ok (f o)
  word_back o even small =
      let w = word_in_lem o even small in
      let l = long in
      grind (arith, nat_tests)

-- only 1,024 bytes have the length of an image
pub sized_ok : {A : Type 0} (n : ℕ) (a : A) (r : Result A ModuleFault) → Ok a ≡ sized n r → n ≡ 1024
sized_ok n a r h = grind (arith, nat_tests)
