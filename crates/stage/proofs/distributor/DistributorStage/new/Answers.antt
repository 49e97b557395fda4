use Rattle.std.proofs.Common.{ℕ, List, replicate, arith}
use Rattle.stage.specs.Bounds.{minus_each_at_most}
use Rattle.stage.proofs.Dropping.{length_levels, highest_zeros}
use Rattle.stage.proofs.distributor.DistributorStage.new.Goals as goal

pub invariant_of-result : goal.invariant_of-result
invariant_of-result c =
    let n = c.taken_count.result in
    let zeros : List ℕ = replicate 12 0 in
    record {
      some = omega arith;
      few = omega arith;
      whole = omega arith;
      counted = length_levels n 0 zeros (omega arith);
      bounded = omega arith;
      within = minus_each_at_most 0 zeros;
      top = highest_zeros n zeros;
    }
