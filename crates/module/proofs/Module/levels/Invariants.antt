use Rattle.std.proofs.Common.{◌≡◌, ℕ, ◌<◌, get_or}
use Rattle.std.specs.Result.{result_unwrap_or}
use Rattle.stage.specs.Levels.{level_answer}
use Rattle.module.proofs.Module.levels.Given as goal

-- each step so far is the level of its channel, or 0 where there is no such channel
abbrev pub invariant-loop-channel : goal.invariant-loop-channel
invariant-loop-channel g l = (k : ℕ) → k < l.channel → get_or l.step-items k 0 ≡ result_unwrap_or (level_answer (g.S.Stage.levels l.self-inside.stage) k) 0
