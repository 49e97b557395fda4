use Rattle.std.proofs.Common.{◌≡◌, length, arith}
use Rattle.std.proofs.lemmas.Grind.{common_steps}
use Rattle.module.specs.State.{State}
use Rattle.module.specs.Rounds.{round_state}
use Rattle.values.proofs.Limits.{limit_steps_stored}
use Rattle.module.proofs.RoundLaws.{round_laws, round_stays}
use Rattle.module.proofs.Module.round.Goals as goal

pub step-requires-clause-limit_steps_bound : goal.step-requires-clause-limit_steps_bound
step-requires-clause-limit_steps_bound g c =
    grind (arith, common_steps, limit_steps_stored)

pub returns-clause-laws : goal.returns-clause-laws
returns-clause-laws g c ok =
    let s = c.args.self.now in
    let rs = c.args.readings.now in
    let u : State = record { table = c.collect.new.self; levels = g.S.Stage.levels c.self-2.inside.stage } in
    let counted : length rs ≡ length s.levels = grind (arith, common_steps) in
    let left : u ≡ round_state g.S.Stage.REGULATES s c.args.conditions.now rs = grind (arith, common_steps) in
    round_laws g.S.Stage.REGULATES s c.args.conditions.now rs counted u left

pub returns-clause-stays : goal.returns-clause-stays
returns-clause-stays g c =
    let s = c.args.self.now in
    let rs = c.args.readings.now in
    let u : State = record { table = c.collect.new.self; levels = g.S.Stage.levels c.self-2.inside.stage } in
    let counted : length rs ≡ length s.levels = grind (arith, common_steps) in
    let left : u ≡ round_state g.S.Stage.REGULATES s c.args.conditions.now rs = grind (arith, common_steps) in
    round_stays g.S.Stage.REGULATES s c.args.conditions.now rs counted u left
