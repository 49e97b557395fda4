use Rattle.module.proofs.RoundLawsExamples.{first_rounds}
use Rattle.module.proofs.round_laws.first_rounds_are.Goals as goal

pub returns : goal.returns
returns c = first_rounds
