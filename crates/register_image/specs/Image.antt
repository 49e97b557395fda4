-- The image of a module: its words at offsets 0000 to 03FF in order, big end first, in 1,024 bytes.
use Rattle.std.specs.Prelude.{ℕ, ◌+◌, ◌-◌, ◌*◌, ◌/◌, ◌%◌, ◌^◌, Bool, cond, List, map, length, take, drop, Ok, Err, Result, ◌==◌, nat_lt, slice_index, slice_set}
use Rattle.std.specs.List.{range_with_len}
use Rattle.std.specs.Result.{result_unwrap_or}
use Rattle.registers.specs.declared.fault.ModuleFault.{ModuleFault}
use Rattle.registers.specs.Faults.{refusal_1, refusal_2_channel, refusal_8}
use Rattle.registers.specs.Map.{outside, channel_begins}
use Rattle.module.specs.State.{State, word_answer}
use Rattle.register_image.specs.declared.reader.ImageReader.{ImageReader}
use Rattle.register_image.specs.declared.reader.ChannelBlock.{ChannelBlock}

-- byte j of the words f, which are given by their offsets: each word's high byte stands at its offset, and its low byte after it
abbrev pub byte_of : (ℕ → ℕ) → ℕ → ℕ
byte_of f j = cond (j % 2 == 0) (f j / 256) (f (j - 1) % 256)

unfoldable pub bytes_of : (ℕ → ℕ) → List ℕ
bytes_of f = map (byte_of f) (range_with_len 0 1024)

-- the word at the offset o of the image of s: 0 where a read refuses
abbrev pub image_word : State → ℕ → ℕ
image_word s o = result_unwrap_or (word_answer s o) 0

abbrev pub image_of : State → List ℕ
image_of s = bytes_of (image_word s)

-- the buffer bs after the word w was put at the place o, big end first
abbrev pub with_word : List ℕ → ℕ → ℕ → List ℕ
with_word bs o w = slice_set (slice_set bs o (w / 256)) (o + 1) (w % 256)

-- the answer a where n bytes are those of an image, and number 8 for any other n
abbrev pub sized : {A : Type 0} → ℕ → Result A ModuleFault → Result A ModuleFault
sized n a = cond (n == 1024) a (Err (refusal_8 n))

-- the buffer bs after the image of s was written into it
abbrev pub written : State → List ℕ → List ℕ
written s bs = cond (length bs == 1024) (image_of s) bs

-- two bytes, big end first
abbrev pub word_in : List ℕ → ℕ → ℕ
word_in bs o = slice_index bs o * 256 + slice_index bs (o + 1)

-- the answer where the word at the offset o is asked of the bytes
abbrev pub reader_word : List ℕ → ℕ → Result ℕ ModuleFault
reader_word bs o = cond (outside o) (Err (refusal_1 o)) (sized (length bs) (Ok (word_in bs o)))

-- bit k of PlacedChannels belongs to channel k
abbrev pub placed_in : List ℕ → ℕ → Bool
placed_in bs k = word_in bs 0x3C / 2 ^ k % 2 == 1

-- the bytes that a reader holds
abbrev pub reader_bytes : Result ImageReader ModuleFault → Result (List ℕ) ModuleFault
reader_bytes (Ok reader) = Ok reader.bytes.now
reader_bytes (Err f) = Err f

-- the answer where a reader is made
abbrev pub reader_answer : List ℕ → Result (List ℕ) ModuleFault
reader_answer bs = sized (length bs) (Ok bs)

-- a channel's block: where it begins, and its bytes
pub record Block : Type 0 where
  pub begins : ℕ
  pub held : List ℕ

abbrev pub block_told : Result ChannelBlock ModuleFault → Result Block ModuleFault
block_told (Ok b) = Ok (record { begins = b.offset; held = b.bytes.now })
block_told (Err f) = Err f

abbrev pub block_in : List ℕ → ℕ → Block
block_in bs k = record { begins = channel_begins k; held = take 0x30 (drop (channel_begins k) bs) }

-- the answer where the block of channel k is asked of the bytes: a channel from 12 up is refused without a look at them
abbrev pub block_answer : List ℕ → ℕ → Result Block ModuleFault
block_answer bs k =
    cond (nat_lt k 12) (sized (length bs) (cond (placed_in bs k) (Ok (block_in bs k)) (Err (refusal_2_channel k)))) (Err (refusal_2_channel k))
