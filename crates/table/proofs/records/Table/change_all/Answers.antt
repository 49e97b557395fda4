use Rattle.std.proofs.Common.{set, ap, ◌∙◌, arith}
use Rattle.std.proofs.lemmas.List.{get_or_default}
use Rattle.std.proofs.lemmas.List.Edits.{map_over_more}
use Rattle.table.specs.declared.records.Channel.{Channel}
use Rattle.table.specs.Changes.{changed}
use Rattle.table.specs.Reads.{no_channel}
use Rattle.table.proofs.records.Table.change_all.Goals as goal

pub loop-channel-preserved : goal.loop-channel-preserved
loop-channel-preserved c =
    let placed = c.loop-channel.placed in
    let i = c.loop-channel.channel-index in
    ap (λ (v : Channel). set placed i v) c.apply.ensures
    ∙ map_over_more (λ (x : Channel). changed x c.args.change) _ placed i _ (omega arith) c.loop-channel.invariant (get_or_default placed i no_channel _ (omega arith))
