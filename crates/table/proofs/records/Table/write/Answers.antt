use Rattle.std.proofs.Common.{Result, sym, subst}
use Rattle.std.specs.Result.{IfOk}
use Rattle.registers.specs.declared.fault.ModuleFault.{ModuleFault}
use Rattle.table.specs.declared.carrying.Drive.{Drive}
use Rattle.table.specs.Carrying.{DrivePlaced}
use Rattle.table.proofs.Placing.{answer_placed}
use Rattle.table.proofs.records.Table.write.Goals as goal

pub returns-clause-placed : goal.returns-clause-placed
returns-clause-placed c = subst (λ (r : Result Drive ModuleFault). IfOk r (DrivePlaced c.args.count)) (sym c.serve-answer.ensures.answer) (answer_placed c.args.count c.args.self.now c.args.offset c.args.word)
