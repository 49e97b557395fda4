-- Laws of a write: what it changes, what it leaves as it was, and when it is refused.
use Rattle.std.specs.Prelude.{◌≡◌, ℕ, ◌+◌, ◌<◌, ◌≤◌, true, false, length, Some, None, Ok, Err, Result, ◌≢◌, slice_index, slice_index_or}
use Rattle.values.specs.declared.model.Model.{Model}
use Rattle.registers.specs.declared.fault.ModuleFault.{ModuleFault}
use Rattle.registers.specs.declared.place.ChannelWord.TheVariants as cw
use Rattle.registers.specs.declared.place.WordRegister.{WordRegister}
use Rattle.registers.specs.declared.place.WordRegister.TheVariants as wr
use Rattle.registers.specs.declared.place.ValueRegister.{ValueRegister}
use Rattle.registers.specs.declared.place.ValueRegister.TheVariants as vr
use Rattle.registers.specs.declared.place.Place.{Place}
use Rattle.registers.specs.declared.place.Place.TheVariants as place
use Rattle.registers.specs.Faults.{number, refusal_6}
use Rattle.registers.specs.Map.{located, ValuePlaced}
use Rattle.registers.specs.Offsets.{word_offset, value_offset}
use Rattle.registers.specs.Rights.{value_writable}
use Rattle.table.specs.declared.records.Table.{Table}
use Rattle.table.specs.Carrying.{module_passes, error_noted}
use Rattle.table.specs.Changes.{blocked}
use Rattle.table.specs.Orders.{Subject, of_module, of_channel, of_all, sets_emergency, sets_on}
use Rattle.table.specs.Parts.{half}
use Rattle.table.specs.Reads.{channel_of}
use Rattle.table.specs.Writes.{collected, released}
use Rattle.module.specs.State.{State, count, collected_state, new_state, word_answer, write_state, write_answer}

-- what a register is for: the module, one channel, or all channels

abbrev pub word_subject : WordRegister → Subject
word_subject (wr.Module w) = of_module
word_subject (wr.Channel k w) = of_channel k

abbrev pub value_subject : ValueRegister → Subject
value_subject (vr.Module v) = of_module
value_subject (vr.Channel k v) = of_channel k
value_subject (vr.Group g) = of_all

abbrev pub place_subject : Place → Subject
place_subject (place.Word r) = word_subject r
place_subject (place.Upper r) = value_subject r
place_subject (place.Lower r) = value_subject r

-- a register of x stands at the offset o
pub record StandsAt (s : State) (o : ℕ) (x : Subject) : Type 0 where
  pub place : Place
  pub found : located (count s) o ≡ Ok place
  pub is : place_subject place ≡ x

-- the upper half of the value r stands at the offset o, and r may be written
pub record UpperAt (s : State) (o : ℕ) (r : ValueRegister) : Type 0 where
  pub found : located (count s) o ≡ Ok (place.Upper r)
  pub writable : value_writable r ≡ true

-- at most 12 channels, and records for 12
pub record Whole (s : State) : Type 0 where
  pub few : count s ≤ 12
  pub records : length s.table.channels ≡ 12

-- a new module of at most 12 channels is whole, and every write leaves it whole
pub record StaysWhole : Type 0 where
  pub new : (m : Model) (n : ℕ) → n ≤ 12 → Whole (new_state m n)
  pub written : (s : State) (o w : ℕ) → Whole s → Whole (write_state s o w)

-- the write of w at o was accepted; every word reads as after any access, and every level is as it was
pub record OnlyHeld (s : State) (o w : ℕ) : Type 0 where
  pub answer : write_answer s o w ≡ Ok tt
  pub words : (p : ℕ) → word_answer (write_state s o w) p ≡ word_answer (collected_state s) p
  pub levels : (write_state s o w).levels ≡ s.levels

-- an upper half of a value that may be written is accepted, and changes nothing that is read
abbrev pub HalfAlone : Type 0
HalfAlone = (s : State) (o w : ℕ) (r : ValueRegister) → UpperAt s o r → OnlyHeld s o w

-- after an accepted upper half it is held, for the word after it; after any other write nothing is held
pub record HeldAfter : Type 0 where
  pub upper : (s : State) (o w : ℕ) (r : ValueRegister) → UpperAt s o r → (write_state s o w).table.held ≡ Some (half (o + 2) w)
  pub others : (s : State) (o w : ℕ) → ((r : ValueRegister) → UpperAt s o r → ⊥) → (write_state s o w).table.held ≡ None

-- the halves u and l of the value r are written one right after the other
abbrev pub completed : State → ValueRegister → ℕ → ℕ → State
completed s r u l = write_state (write_state s (value_offset r) u) (value_offset r + 2) l

-- the answer to the lower half
abbrev pub completed_answer : State → ValueRegister → ℕ → ℕ → Result (Unit {0}) ModuleFault
completed_answer s r u l = write_answer (write_state s (value_offset r) u) (value_offset r + 2) l

-- the value r reads as the words u and l
pub record ReadsAs (s : State) (r : ValueRegister) (u l : ℕ) : Type 0 where
  pub upper : word_answer s (value_offset r) ≡ Ok u
  pub lower : word_answer s (value_offset r + 2) ≡ Ok l

-- a value whose two halves were accepted is read back as those words, for every value that may be written
abbrev pub ReadBack : Type 0
ReadBack =
    (s : State) (r : ValueRegister) (u l : ℕ)
    → Whole s
    → ValuePlaced (count s) r
    → value_writable r ≡ true
    → u < 65536
    → l < 65536
    → completed_answer s r u l ≡ Ok tt
    → ReadsAs (completed s r u l) r u l

-- what the register at o is for has its input error noted; else only the half is dropped, and the events are collected
pub record ErrorAt (s : State) (o w : ℕ) : Type 0 where
  pub subject : Subject
  pub stands : StandsAt s o subject
  pub table : (write_state s o w).table ≡ collected (count s) (error_noted (released s.table) subject)

-- no level changes; in the table the half is dropped and the events are collected, and with number 5 the input error is noted
pub record Refused (s : State) (o w : ℕ) (f : ModuleFault) : Type 0 where
  pub levels : (write_state s o w).levels ≡ s.levels
  pub table : (number f ≢ 5) → (write_state s o w).table ≡ collected (count s) (released s.table)
  pub noted : number f ≡ 5 → ErrorAt s o w

-- a refused write changes nothing else, whatever the refusal f
abbrev pub RefusedChangesNothing : Type 0
RefusedChangesNothing = (s : State) (o w : ℕ) (f : ModuleFault) → write_answer s o w ≡ Err f → Refused s o w f

-- channel j is as it was: its record, its level and each of its words
pub record Untouched (s : State) (o w j : ℕ) : Type 0 where
  pub records : channel_of (write_state s o w).table j ≡ channel_of s.table j
  pub level : slice_index_or (write_state s o w).levels j 0 ≡ slice_index s.levels j
  pub words : (p : ℕ) → StandsAt s p (of_channel j) → word_answer (write_state s o w) p ≡ word_answer s p

-- a write to a register of channel k, accepted or refused, leaves each other channel as it was
abbrev pub OthersUntouched : Type 0
OthersUntouched = (s : State) (o w k j : ℕ) → StandsAt s o (of_channel k) → (j ≢ k) → Untouched s o w j

-- channel k is off and blocked
pub record OffAndBlocked (t : Table) (k : ℕ) : Type 0 where
  pub off : (channel_of t k).on ≡ false
  pub barred : blocked (module_passes t) (channel_of t k) ≡ true

-- the write of w to o is refused with number 6
abbrev pub Refuses6 : State → ℕ → ℕ → Type 0
Refuses6 s o w = write_answer s o w ≡ Err (refusal_6 o)

abbrev pub control_offset : ℕ → ℕ
control_offset k = word_offset (wr.Channel k cw.Control)

-- the word w written to ChannelControl of channel k is refused if and only if the channel is off and blocked
pub record ChannelRefuses (s : State) (k w : ℕ) : Type 0 where
  pub refused : OffAndBlocked s.table k → Refuses6 s (control_offset k) w
  pub only : Refuses6 s (control_offset k) w → OffAndBlocked s.table k

-- the word 1 that completes the on/off group is refused if and only if some channel is off and blocked; then no channel changes
pub record GroupRefuses (s : State) : Type 0 where
  pub refused : (k : ℕ) → k < count s → OffAndBlocked s.table k → Refuses6 s 0x2B6 1
  pub only : Refuses6 s 0x2B6 1 → (k : ℕ) × (k < count s) × OffAndBlocked s.table k
  pub unchanged : Refuses6 s 0x2B6 1 → (write_state s 0x2B6 1).table.channels ≡ s.table.channels

-- switching on is refused exactly for a blocked channel that is off: by bit 3 without bit 5 of ChannelControl, or by data 1 of the group
pub record SwitchRefused : Type 0 where
  pub channel : (s : State) (k w : ℕ) → count s ≤ 12 → k < count s → sets_emergency w ≡ false → sets_on w ≡ true → ChannelRefuses s k w
  pub group : (s : State) → Whole s → s.table.held ≡ Some (half 0x2B6 0) → GroupRefuses s
