use Rattle.std.proofs.Common.{◌-◌, ◌<◌, length, set, ap, ◌∙◌, arith}
use Rattle.std.proofs.lemmas.List.{get_or_default}
use Rattle.std.proofs.lemmas.List.Edits.{map_over_more}
use Rattle.stage.proofs.distributor.minus_each.Goals as goal

pub loop-value-preserved : goal.loop-value-preserved
loop-value-preserved c =
    let i = c.loop-value.value-index in
    let ys = c.loop-value.value-items in
    let h : i < length ys = omega arith in
    ap (set ys i) c.saturating_sub.ensures ∙ map_over_more (λ x. c.args.common - x) c.args.values ys i _ (omega arith) c.loop-value.invariant (get_or_default ys i 0 _ h)
