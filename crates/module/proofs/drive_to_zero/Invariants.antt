use Rattle.std.proofs.Common.{◌≡◌, ◌++◌, drop, replicate}
use Rattle.module.proofs.drive_to_zero.Given as goal

-- the first levels are at 0, and the others as they were
abbrev pub invariant-loop-channel : goal.invariant-loop-channel
invariant-loop-channel g l =
    let lv = g.S.Stage.levels in
    lv l.stage ≡ replicate l.channel 0 ++ drop l.channel (lv l.initial.stage)
