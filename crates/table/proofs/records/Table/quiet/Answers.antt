use Rattle.std.proofs.Common.{ap, not, rules, tests}
use Rattle.std.proofs.lemmas.Iterator.{YieldsList-from_slice}
use Rattle.std.proofs.lemmas.Iterator.Search.{any_from_yields_List}
use Rattle.table.specs.Words.{alarmed}
use Rattle.table.specs.Reads.{placed}
use Rattle.table.proofs.records.Table.quiet.Goals as goal

pub returns : goal.returns
returns c = ap not (any_from_yields_List alarmed _ _ _ c.any.ensures.ran (YieldsList-from_slice (placed c.args.count c.args.self.now) cc) (λ x b q k. search (rules, tests)))
