use Rattle.std.proofs.Common.{arith, rules}
use Rattle.std.proofs.lemmas.Grind.{common_steps}
use Rattle.module.proofs.Module.write.Goals as goal

pub returns-in_err-write : goal.returns-in_err-write
returns-in_err-write g c = rw (← c.self.view_is) (search rules)

pub returns-in-Nothing-clause-state : goal.returns-in-Nothing-clause-state
returns-in-Nothing-clause-state g c = rw (← c.self.view_is) (grind (arith, common_steps))

pub returns-in_ok-drive-in-ToZero-clause-state : goal.returns-in_ok-drive-in-ToZero-clause-state
returns-in_ok-drive-in-ToZero-clause-state g c = rw (← c.self.view_is) (grind (arith, common_steps))

pub returns-in_ok-drive_to_zero-in-AllToZero-clause-state : goal.returns-in_ok-drive_to_zero-in-AllToZero-clause-state
returns-in_ok-drive_to_zero-in-AllToZero-clause-state g c = rw (← c.self.view_is) (grind (arith, common_steps))
