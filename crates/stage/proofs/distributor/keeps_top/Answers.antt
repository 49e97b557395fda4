use Rattle.std.proofs.Common.{arith}
use Rattle.stage.proofs.Dropping.{keeps_top_below, keeps_top_other}
use Rattle.stage.proofs.distributor.keeps_top.Goals as goal

pub returns-then-drops-channel-ne0 : goal.returns-then-drops-channel-ne0
returns-then-drops-channel-ne0 c =
    let l = c.if-level-common.false in
    record {
      below = λ _. l;
      stays = λ _. keeps_top_below c.args.common c.args.drops.now c.args.channel c.args.level l c.if-channel-drops.true c.if-drops-channel-ne0.true;
    }

pub returns-then-other-channel : goal.returns-then-other-channel
returns-then-other-channel c =
    let l = c.if-level-common.false in
    record {
      below = λ _. l;
      stays = λ _. keeps_top_other c.args.common c.args.drops.now c.args.channel c.args.level l _ (omega arith) c.if-other-channel.true c.if-drops-other-eq0.true;
    }
