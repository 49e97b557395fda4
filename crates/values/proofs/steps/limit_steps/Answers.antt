use Rattle.values.proofs.Last.{limit_last}
use Rattle.values.proofs.steps.limit_steps.Goals as goal

pub returns-clause-last : goal.returns-clause-last
returns-clause-last c = limit_last _ _ c.rounded_down.ensures
