use Rattle.std.proofs.Common.{ap, not, rules, tests}
use Rattle.std.proofs.lemmas.Iterator.{YieldsList-from_slice}
use Rattle.std.proofs.lemmas.Iterator.Search.{any_from_yields_List}
use Rattle.table.specs.declared.records.Channel.{Channel}
use Rattle.table.specs.Reads.{placed}
use Rattle.table.proofs.records.Table.still.Goals as goal

pub returns : goal.returns
returns c = ap not (any_from_yields_List (λ (x : Channel). x.ramping) _ _ _ c.any.ensures.ran (YieldsList-from_slice (placed c.args.count c.args.self.now) cc) (λ x b q k. search (rules, tests)))
