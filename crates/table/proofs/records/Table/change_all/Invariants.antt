use Rattle.std.proofs.Common.{◌≡◌, ◌++◌, map, take, drop}
use Rattle.table.specs.Changes.{changed}
use Rattle.table.proofs.records.Table.change_all.Given as goal

abbrev pub invariant-loop-channel : goal.invariant-loop-channel
invariant-loop-channel l = l.placed ≡ map (λ c. changed c l.change) (take l.channel-index l.initial.placed) ++ drop l.channel-index l.initial.placed
