use Rattle.std.proofs.Common.{sym, ◌∙◌}
use Rattle.table.proofs.Collecting.{nothing_collected}
use Rattle.table.proofs.records.Table.collect.Goals as goal

pub returns-else-any_passes : goal.returns-else-any_passes
returns-else-any_passes c = sym (nothing_collected c.args.count c.args.self.now (sym c.any_passes.ensures ∙ c.if-any_passes.false))
