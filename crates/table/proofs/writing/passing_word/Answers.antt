use Rattle.std.proofs.Common.{arith}
use Rattle.table.proofs.Collecting.{passing_more, passing_fits}
use Rattle.table.proofs.writing.passing_word.Goals as goal

pub overflow_add-word : goal.overflow_add-word
overflow_add-word c = omega (arith, passing_fits c.args.channels.now c.requires c.loop-k.word c.loop-k.k c.loop-k.invariant c.loop-k-test.true c.event_passes.result c.bit-word.result c.event_passes.ensures c.bit-word.ensures.value)

pub loop-k-preserved : goal.loop-k-preserved
loop-k-preserved c = passing_more c.args.channels.now c.requires c.loop-k.word c.loop-k.k c.loop-k.invariant c.loop-k-test.true c.event_passes.result c.bit-word.result c.event_passes.ensures c.bit-word.ensures.value
