-- The loop of a block that has come to index i.
use Rattle.std.proofs.Common.{List, ◌++◌}
use Rattle.module.specs.declared.block.Access.{Access}
use Rattle.module.specs.Blocks.{BlockEnd, end_of}

-- what a block comes to whose front is done already
abbrev pub ahead : List Access → BlockEnd → BlockEnd
ahead front e = end_of e.state (front ++ e.records) e.answer
