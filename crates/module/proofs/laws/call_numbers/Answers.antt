use Rattle.module.proofs.CallNumbers.{call_numbers}
use Rattle.module.proofs.laws.call_numbers.Goals as goal

pub returns : goal.returns
returns c = call_numbers
