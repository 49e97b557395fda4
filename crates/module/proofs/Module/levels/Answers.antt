use Rattle.std.proofs.Common.{◌≡◌, ◌-◌, ◌++◌, ◌≤◌, length, replicate, ◌∙◌, length-append, arith}
use Rattle.std.proofs.lemmas.List.{length-replicate}
use Rattle.std.proofs.lemmas.Grind.{same_number_lists}
use Rattle.module.proofs.Listing.{level_listed}
use Rattle.module.proofs.Module.levels.Goals as goal

pub returns : goal.returns
returns g c =
    let ls = g.S.Stage.levels c.self.inside.stage in
    let few : length ls ≤ 12 = g.met.S.Stage.few c.self.inside.stage in
    let all : c.loop-channel.step-items ≡ ls ++ replicate (12 - length ls) 0 =
    same_number_lists _ _ (simp (length-append, length-replicate) (omega arith)) (λ k h. c.loop-channel.invariant k (omega arith) ∙ level_listed ls k (12 - length ls)) in
    rw (← c.self.view_is) (λ i. record { count = c.count.ensures i; steps = all i })
