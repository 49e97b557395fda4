use Rattle.values.proofs.Last.{set_last}
use Rattle.values.proofs.steps.set_steps.Goals as goal

pub returns-clause-last : goal.returns-clause-last
returns-clause-last c = set_last c.args.model c.args.volts c.rounded_down.result cc
