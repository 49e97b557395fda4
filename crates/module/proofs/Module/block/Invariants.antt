use Rattle.std.proofs.Common.{◌≡◌, take, drop}
use Rattle.module.specs.Blocks.{block_end}
use Rattle.module.proofs.Blocking.{ahead}
use Rattle.module.proofs.Module.block.Given as goal

abbrev pub invariant-loop-index : goal.invariant-loop-index
invariant-loop-index g l = ahead (take l.index-counter l.list) (block_end l.index-counter l.self (drop l.index-counter l.list)) ≡ block_end 0 l.initial.self l.initial.list
