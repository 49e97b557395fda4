use Rattle.std.proofs.Common.{◌∙◌, rules, tests}
use Rattle.std.proofs.lemmas.Iterator.{YieldsList-from_slice}
use Rattle.std.proofs.lemmas.Iterator.Consumers.{YieldsList-from_filter, count_from_yields_List}
use Rattle.std.proofs.lemmas.List.Sums.{length-filter}
use Rattle.runs.specs.Calls.{said_by}
use Rattle.runs.specs.declared.call.Reply.{Reply}
use Rattle.script.specs.Listing.{done_by}
use Rattle.script.proofs.listing.done_count.Goals as goal

pub returns-clause-count : goal.returns-clause-count
returns-clause-count c =
    count_from_yields_List c.filter.result _ c.count.ensures.ran (YieldsList-from_filter _ (λ (r : Reply). done_by (said_by r.answer)) (YieldsList-from_slice c.args.replies.now cc) c.filter.ensures.closure (λ x b q k. search (rules, tests)))
    ∙ length-filter _ c.args.replies.now
