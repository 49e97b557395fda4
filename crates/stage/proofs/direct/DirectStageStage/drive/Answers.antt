use Rattle.std.proofs.Common.{arith}
use Rattle.std.proofs.lemmas.Grind.{common_steps}
use Rattle.stage.proofs.Driving.{take_of_set}
use Rattle.stage.proofs.direct.DirectStageStage.drive.Goals as goal

pub returns-clause-state : goal.returns-clause-state
returns-clause-state c = grind (arith, common_steps, take_of_set)
