-- The number of each refusal, and what it carries.
use Rattle.std.specs.Prelude.{◌≡◌, ℕ}
use Rattle.stage.specs.declared.fault.StageFault.{StageFault}
use Rattle.stage.specs.Levels.{stage_fault_number}
use Rattle.registers.specs.declared.fault.ModuleFault.{ModuleFault}
use Rattle.registers.specs.declared.fault.ModuleFault.TheVariants as fault

-- what a fault carries: an offset, the number of readings or of bytes, the channel asked for, or the stage's fault whole
pub data Carried : Type 0 where
  offset : ℕ → Carried
  readings : ℕ → Carried
  bytes : ℕ → Carried
  channel : ℕ → Carried
  whole : StageFault → Carried

abbrev pub number : ModuleFault → ℕ
number (fault.Outside o) = 1
number (fault.EmptyPlace o) = 2
number (fault.NoChannel k) = 2
number (fault.ReadOnly o) = 3
number (fault.UpperNotHeld o) = 4
number (fault.NotAdmitted o) = 5
number (fault.Blocked o) = 6
number (fault.Readings n) = 7
number (fault.ImageLength n) = 8
number (fault.Stage f) = stage_fault_number

abbrev pub carries : ModuleFault → Carried
carries (fault.Outside o) = offset o
carries (fault.EmptyPlace o) = offset o
carries (fault.NoChannel k) = channel k
carries (fault.ReadOnly o) = offset o
carries (fault.UpperNotHeld o) = offset o
carries (fault.NotAdmitted o) = offset o
carries (fault.Blocked o) = offset o
carries (fault.Readings n) = readings n
carries (fault.ImageLength n) = bytes n
carries (fault.Stage f) = whole f

-- the refusal that each number stands for, with what it carries

-- the offset is odd or above 3FE
abbrev pub refusal_1 : ℕ → ModuleFault
refusal_1 o = fault.Outside o

-- nothing stands at the offset
abbrev pub refusal_2 : ℕ → ModuleFault
refusal_2 o = fault.EmptyPlace o

-- the channel asked for is not placed
abbrev pub refusal_2_channel : ℕ → ModuleFault
refusal_2_channel k = fault.NoChannel k

-- the word is read only
abbrev pub refusal_3 : ℕ → ModuleFault
refusal_3 o = fault.ReadOnly o

-- a lower half whose upper half is not held
abbrev pub refusal_4 : ℕ → ModuleFault
refusal_4 o = fault.UpperNotHeld o

-- the value is not admitted
abbrev pub refusal_5 : ℕ → ModuleFault
refusal_5 o = fault.NotAdmitted o

-- a blocked channel that is off cannot be switched on
abbrev pub refusal_6 : ℕ → ModuleFault
refusal_6 o = fault.Blocked o

-- there is not one reading for each channel
abbrev pub refusal_7 : ℕ → ModuleFault
refusal_7 n = fault.Readings n

-- an image has not 1,024 bytes
abbrev pub refusal_8 : ℕ → ModuleFault
refusal_8 n = fault.ImageLength n

-- the output stage refuses
abbrev pub refusal_9 : StageFault → ModuleFault
refusal_9 f = fault.Stage f

-- the refusal has this number and carries this
abbrev pub Numbered : ModuleFault → ℕ → Carried → Type 0
Numbered f n x = (number f ≡ n) × (carries f ≡ x)

-- each refusal has its own number and carries what it was made with
pub record NumbersStand : Type 0 where
  pub outside : (o : ℕ) → Numbered (refusal_1 o) 1 (offset o)
  pub empty_place : (o : ℕ) → Numbered (refusal_2 o) 2 (offset o)
  pub no_channel : (k : ℕ) → Numbered (refusal_2_channel k) 2 (channel k)
  pub read_only : (o : ℕ) → Numbered (refusal_3 o) 3 (offset o)
  pub upper_not_held : (o : ℕ) → Numbered (refusal_4 o) 4 (offset o)
  pub not_admitted : (o : ℕ) → Numbered (refusal_5 o) 5 (offset o)
  pub blocked : (o : ℕ) → Numbered (refusal_6 o) 6 (offset o)
  pub count_of_readings : (n : ℕ) → Numbered (refusal_7 n) 7 (readings n)
  pub length_of_image : (n : ℕ) → Numbered (refusal_8 n) 8 (bytes n)
  pub stage_refuses : (f : StageFault) → Numbered (refusal_9 f) 9 (whole f)
  -- no two refusals are told alike
  pub apart : (f g : ModuleFault) → number f ≡ number g → carries f ≡ carries g → f ≡ g
