-- What a stage answers and becomes, over the levels of its channels.
use Rattle.std.specs.Prelude.{ℕ, ◌≤◌, min, max, Bool, cond, ◌&&◌, List, length, Ok, Err, Result, nat_le, nat_lt, slice_index, slice_set}
use Rattle.stage.specs.declared.fault.StageFault.{StageFault}

abbrev pub highest_level : ℕ
highest_level = 100000

abbrev pub most_channels : ℕ
most_channels = 12

abbrev pub stage_fault_number : ℕ
stage_fault_number = 9

-- the count that a stage is made with where n is asked
abbrev pub taken : ℕ → ℕ
taken n = max 1 (min n most_channels)

-- no number of xs is above b
abbrev pub AtMost : ℕ → List ℕ → Type 0
AtMost b xs = (k : ℕ) → slice_index xs k ≤ b

-- the fault with the channel k
abbrev pub stage_fault : ℕ → StageFault
stage_fault k = record { channel = k }

-- whether channel k of n can be driven to the level x
abbrev pub drivable : ℕ → ℕ → ℕ → Bool
drivable n k x = nat_lt k n && nat_le x highest_level

-- the answer where the level of channel k is asked
abbrev pub level_answer : List ℕ → ℕ → Result ℕ StageFault
level_answer ls k = cond (nat_lt k (length ls)) (Ok (slice_index ls k)) (Err (stage_fault k))

-- the answer where channel k is driven to the level x
abbrev pub drive_answer : List ℕ → ℕ → ℕ → Result (Unit {0}) StageFault
drive_answer ls k x = cond (drivable (length ls) k x) (Ok tt) (Err (stage_fault k))

-- the levels after channel k was driven to the level x
abbrev pub driven : List ℕ → ℕ → ℕ → List ℕ
driven ls k x = cond (drivable (length ls) k x) (slice_set ls k x) ls
