-- The levels of a stage, and 0 after them.
use Rattle.std.proofs.Common.{◌≡◌, ℕ, ◌++◌, List, get_or, replicate, arith}
use Rattle.std.proofs.lemmas.Grind.{common_steps}
use Rattle.std.proofs.lemmas.Bool.Decides.{nat_tests}
use Rattle.std.specs.Result.{result_unwrap_or}
use Rattle.stage.specs.Levels.{level_answer}

pub level_listed : (ls : List ℕ) (k n : ℕ) → result_unwrap_or (level_answer ls k) 0 ≡ get_or (ls ++ replicate n 0) k 0
level_listed ls k n = grind (arith, nat_tests, common_steps)
