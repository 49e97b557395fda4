use Rattle.std.proofs.Common.{refl}
use Rattle.stage.proofs.Dropping.{redropped, drop_written}
use Rattle.stage.proofs.distributor.DistributorStageStage.drive.Goals as goal

pub overflow_sub-self : goal.overflow_sub-self
overflow_sub-self c = c.if-keeps_top.ensures.below refl

pub invariant_of-self : goal.invariant_of-self
invariant_of-self c =
    let s = c.args.self.now in
    let kept = c.if-keeps_top.ensures in
    let to = drop_written s c.args.channel c.args.level c.if-not-can_drive.ensures.answer (kept.below refl) (kept.stays refl) in
    record { some = s.some; few = s.few; whole = to.whole; counted = to.counted; bounded = to.bounded; within = to.within; top = to.top }

pub returns-then-keeps_top : goal.returns-then-keeps_top
returns-then-keeps_top c =
    let s = c.args.self.now in
    let kept = c.if-keeps_top.ensures in
    let to = drop_written s c.args.channel c.args.level c.if-not-can_drive.ensures.answer (kept.below refl) (kept.stays refl) in
    record { answer = to.means.answer; state = to.means.state }

pub invariant_of-self-2 : goal.invariant_of-self-2
invariant_of-self-2 c =
    let s = c.args.self.now in
    let to = redropped s c.args.channel c.args.level c.if-not-can_drive.ensures.answer c.minus_each-levels.ensures c.highest_of-common.ensures c.minus_each-self.ensures in
    record { some = s.some; few = s.few; whole = to.whole; counted = to.counted; bounded = to.bounded; within = to.within; top = to.top }

pub returns : goal.returns
returns c =
    let s = c.args.self.now in
    let to = redropped s c.args.channel c.args.level c.if-not-can_drive.ensures.answer c.minus_each-levels.ensures c.highest_of-common.ensures c.minus_each-self.ensures in
    record { answer = to.means.answer; state = to.means.state }
