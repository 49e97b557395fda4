use Rattle.std.proofs.Common.{◌∙◌}
use Rattle.table.proofs.Undisturbed.{is_settled, stays_open}
use Rattle.table.proofs.records.Channel.judge.Goals as goal

pub returns-then-undisturbed : goal.returns-then-undisturbed
returns-then-undisturbed c = record {
  state = c.settle.ensures ∙ is_settled c.args.pass.now c.args.self.now c.args.reading.now c.excess-excess.result c.store_reading.new.self c.undisturbed.result c.excess-excess.ensures c.store_reading.ensures c.undisturbed.ensures c.if-undisturbed.true;
  shut = stays_open c.args.pass.now c.args.self.now c.args.reading.now c.excess-excess.result c.store_reading.new.self c.undisturbed.result c.excess-excess.ensures c.store_reading.ensures c.undisturbed.ensures c.if-undisturbed.true;
}
