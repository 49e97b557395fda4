use Rattle.std.proofs.Common.{◌≤◌, arith}
use Rattle.std.proofs.lemmas.Grind.{common_steps}
use Rattle.table.specs.Reads.{channel_of}
use Rattle.table.proofs.Ramping.{level_within}
use Rattle.module.proofs.Module.step.Goals as goal

-- the level is at most the limit steps, so the stage does not refuse
pub returns-in_err-drive : goal.returns-in_err-drive
returns-in_err-drive g c =
    let low = level_within c.args.pass.now (channel_of c.self.inside.table c.args.channel) c.args.reading.now c.in_ok-level.level in
    let reached : c.pass-moved.result ≤ 100000 = omega (arith, low, c.pass-moved.ensures.level) in
    absurd (grind (arith, common_steps))
