-- What holds of every stage, whatever its levels are.
use Rattle.std.specs.Prelude.{◌≡◌, ℕ, ◌<◌, ◌≤◌, ◌⊎◌, List, length, Ok, Err, ◌≢◌, slice_index}
use Rattle.stage.specs.declared.fault.StageFault.{StageFault}
use Rattle.stage.specs.Levels.{highest_level, stage_fault, level_answer, drive_answer, driven}

-- the channel is not below the count, or the level is above the highest
abbrev pub Outside : List ℕ → ℕ → ℕ → Type 0
Outside ls k x = (length ls ≤ k) ⊎ (highest_level < x)

-- a fault is answered outside, and only there; it has the channel, and nothing changes
pub record RefusalLaws (ls : List ℕ) (k x : ℕ) : Type 0 where
  pub drive_refused : Outside ls k x → drive_answer ls k x ≡ Err (stage_fault k)
  pub drive_outside : (f : StageFault) → drive_answer ls k x ≡ Err f → Outside ls k x
  pub drive_channel : (f : StageFault) → drive_answer ls k x ≡ Err f → f ≡ stage_fault k
  pub drive_keeps : Outside ls k x → driven ls k x ≡ ls
  pub level_refused : length ls ≤ k → level_answer ls k ≡ Err (stage_fault k)
  pub level_outside : (f : StageFault) → level_answer ls k ≡ Err f → length ls ≤ k
  pub level_channel : (f : StageFault) → level_answer ls k ≡ Err f → f ≡ stage_fault k

-- driving a channel keeps the count and every other level, and sets its own where it is accepted
pub record DriveLaws (ls : List ℕ) (k x : ℕ) : Type 0 where
  pub count : length (driven ls k x) ≡ length ls
  pub others : (j : ℕ) → (j ≢ k) → slice_index (driven ls k x) j ≡ slice_index ls j
  pub itself : drive_answer ls k x ≡ Ok tt → level_answer (driven ls k x) k ≡ Ok x

abbrev pub RefusalHolds : Type 0
RefusalHolds = (ls : List ℕ) (k x : ℕ) → RefusalLaws ls k x

abbrev pub DriveHolds : Type 0
DriveHolds = (ls : List ℕ) (k x : ℕ) → DriveLaws ls k x
