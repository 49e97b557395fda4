use Rattle.std.proofs.Common.{◌≡◌, take}
use Rattle.table.specs.Writes.{passing}
use Rattle.table.proofs.writing.passing_word.Given as goal

abbrev pub invariant-loop-k : goal.invariant-loop-k
invariant-loop-k l = l.word ≡ passing (take l.k l.channels)
