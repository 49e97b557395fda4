use Rattle.std.proofs.Common.{◌≡◌, fold, max, ◌∙◌, rules}
use Rattle.std.proofs.iter.runs.Made.{chains}
use Rattle.stage.proofs.Dropping.{fold_highest}
use Rattle.stage.proofs.distributor.highest_of.Goals as goal

pub returns : goal.returns
returns c =
    let e : c.fold.result ≡ fold max 0 c.args.levels.now = search (rules, chains) in
    e ∙ fold_highest c.args.levels.now
