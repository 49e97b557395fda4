use Rattle.std.proofs.Common.{◌≡◌, map, length, vec_items, arith}
use Rattle.std.proofs.lemmas.Grind.{common_steps}
use Rattle.module.specs.State.{State, new_state}
use Rattle.runs.specs.Calls.{asked, told, run_told}
use Rattle.runs.specs.History.{history}
use Rattle.runs.proofs.Histories.{run_true}
use Rattle.runs.proofs.Safety.{safe}
use Rattle.runs.proofs.Telling.{tells}
use Rattle.runs.proofs.running.run.Goals as goal

pub returns-clause-history : goal.returns-clause-history
returns-clause-history g c =
    let b = g.S.Stage.REGULATES in
    let n = length (g.S.Stage.levels c.args.stage) in
    let xs = map asked (vec_items c.args.calls) in
    let answered : map told (vec_items c.loop-call.replies) ≡ run_told b (new_state c.args.model n) xs = grind (arith, common_steps) in
    rw answered (tells b c.args.model n xs)

pub returns-clause-safe : goal.returns-clause-safe
returns-clause-safe g c =
    let b = g.S.Stage.REGULATES in
    let n = length (g.S.Stage.levels c.args.stage) in
    let xs = map asked (vec_items c.args.calls) in
    let s : State = new_state c.args.model n in
    let answered : map told (vec_items c.loop-call.replies) ≡ run_told b s xs = grind (arith, common_steps) in
    rw answered (safe b c.args.model n (g.met.S.Stage.few c.args.stage) (history xs (run_told b s xs)) (run_true b s xs))
