-- A register value is a binary32 number in two words of 16 bits, the upper one first.
use Rattle.std.specs.Prelude.{◌≡◌, ℕ, ◌+◌, ◌*◌, ◌/◌, ◌%◌, ◌^◌, ◌<◌, cond, T, from_bits, to_bits, Float}
use Rattle.std.specs.Float.{binary32}
use Rattle.std.specs.Float.Ieee.{nan_bits, fits}
use Rattle.values.specs.declared.words.Words.{Words}

abbrev pub pattern : ℕ → ℕ → ℕ
pattern upper lower = upper * 65536 + lower

abbrev pub value_of : ℕ → ℕ → Float
value_of upper lower = from_bits binary32 (pattern upper lower)

abbrev pub upper_word : Float → ℕ
upper_word x = to_bits binary32 x / 65536

abbrev pub lower_word : Float → ℕ
lower_word x = to_bits binary32 x % 65536

-- the words of 32 bits, and of a value

abbrev pub words_of : ℕ → Words
words_of bits = record { upper = bits / 65536; lower = bits % 65536 }

abbrev pub words_of_value : Float → Words
words_of_value x = record { upper = upper_word x; lower = lower_word x }

-- two words joined and split again are the same two, and those of a NaN are 7FC0 and 0000
abbrev pub SplitJoined : ℕ → ℕ → Type 0
SplitJoined upper lower =
    let is_nan = nan_bits binary32 (pattern upper lower) in
    (upper_word (value_of upper lower) ≡ cond is_nan 0x7FC0 upper) × (lower_word (value_of upper lower) ≡ cond is_nan 0 lower)

-- joining and splitting are inverse, for every pair of words and for every binary32 number
pub record WordsReturn : Type 0 where
  pub split_joined : (upper lower : ℕ) → upper < 2 ^ 16 → lower < 2 ^ 16 → SplitJoined upper lower
  pub joined_split : (x : Float) → T (fits binary32 x) → value_of (upper_word x) (lower_word x) ≡ x
