use Rattle.module.proofs.RoundLawsExamples.{percent_is_percent}
use Rattle.module.proofs.round_laws.percent_is_percent.Goals as goal

pub returns : goal.returns
returns c = percent_is_percent
