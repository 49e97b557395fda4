use Rattle.std.proofs.Common.{◌≡◌, length, slice_set, slice_index_or, Ok, arith}
use Rattle.std.proofs.lemmas.Grind.{common_steps}
use Rattle.module.specs.BlockLaws.{no_access}
use Rattle.module.specs.Blocks.{end_of, block_end}
use Rattle.module.proofs.BlockLaws.{block_lawful}
use Rattle.module.proofs.Module.block.Goals as goal

pub returns-in_err-record-clause-law : goal.returns-in_err-record-clause-law
returns-in_err-record-clause-law g c =
    let i = c.loop-index.index-counter in
    let left = slice_set c.loop-index.list i (slice_index_or c.loop-index.list i no_access) in
    let end : end_of c.access.new.self left c.from_residual.result ≡ block_end 0 c.args.self.now c.args.list.now = grind (arith, common_steps) in
    block_lawful c.args.self.now c.args.list.now _ end

pub returns-clause-law : goal.returns-clause-law
returns-clause-law g c =
    let xs = c.loop-index.list in
    let end : end_of c.loop-index.self xs (Ok (length xs)) ≡ block_end 0 c.args.self.now c.args.list.now = grind (arith, common_steps) in
    block_lawful c.args.self.now c.args.list.now _ end
