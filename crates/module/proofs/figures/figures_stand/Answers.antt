use Rattle.std.proofs.Common.{refl}
use lib.Ieee.{of_bits, le, lt, sub, mul, div, neg}
use Rattle.module.proofs.figures.figures_stand.Goals as goal

pub returns : goal.returns
unfolding of_bits le lt sub mul div neg
returns c regulates = refl
