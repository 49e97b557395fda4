use Rattle.std.proofs.Common.{◌≡◌, ◌+◌, ◌≤◌, ◌++◌, map, vec_items, vec_len, vec_capacity}
use Rattle.std.specs.Vec.Iter.{into_iter_items, into_iter_len}
use Rattle.runs.specs.Calls.{asked, told, run_state, run_told}
use Rattle.runs.proofs.running.run.Given as goal

abbrev pub invariant-loop-call : goal.invariant-loop-call
invariant-loop-call g l =
    let b = g.S.Stage.REGULATES in
    (vec_len l.replies + into_iter_len l.call-iterator ≤ vec_capacity l.replies)
    × (run_state b l.module (map asked (into_iter_items l.call-iterator)) ≡ run_state b l.initial.module (map asked (into_iter_items l.initial.call-iterator)))
    × (map told (vec_items l.replies) ++ run_told b l.module (map asked (into_iter_items l.call-iterator))
    ≡ run_told b l.initial.module (map asked (into_iter_items l.initial.call-iterator)))
