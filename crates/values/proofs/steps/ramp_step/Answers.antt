use Rattle.values.proofs.Last.{ramp_last}
use Rattle.values.proofs.steps.ramp_step.Goals as goal

pub returns-clause-last : goal.returns-clause-last
returns-clause-last c = ramp_last _ _ c.rounded_down.ensures
