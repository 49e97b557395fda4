use Rattle.std.proofs.Common.{◌≡◌, ◌++◌, take, drop}
use Rattle.stage.specs.Drops.{minus_each}
use Rattle.stage.proofs.distributor.minus_each.Given as goal

abbrev pub invariant-loop-value : goal.invariant-loop-value
invariant-loop-value l = l.value-items ≡ minus_each l.common (take l.value-index l.fn.values) ++ drop l.value-index l.fn.values
