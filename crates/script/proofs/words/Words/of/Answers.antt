use Rattle.std.proofs.Common.{ℕ, refl, not, eqb, List, length, ap, ◌∙◌, arith, rules, tests, Bor}
use Rattle.std.proofs.lemmas.Iterator.{YieldsList-from_take}
use Rattle.std.proofs.lemmas.Iterator.Adapters.{YieldsList-from_flat_map}
use Rattle.std.proofs.lemmas.Iterator.Consumers.{YieldsList-at, YieldsList-from_filter, YieldsList-end}
use Rattle.std.proofs.lemmas.Iterator.Splits.{YieldsList-from_str_split}
use Rattle.std.specs.List.{slice_split}
use Rattle.script.specs.Words.{spelt, before_comment}
use Rattle.script.proofs.words.Words.of.Goals as goal

pub loop-word-init : goal.loop-word-init
loop-word-init c = (
  refl,
  YieldsList-at c.into_iter-word-iterator.ensures.into_iter_gives
      (YieldsList-from_take 8
      (YieldsList-at c.take-found.ensures.source
      (YieldsList-from_filter _ (λ (w : List ℕ). not (eqb (length w) 0))
      (YieldsList-at c.filter.ensures.source
      (YieldsList-from_flat_map _ _ _ (λ (y : Bor (List ℕ)). y.now) (slice_split (λ (b : ℕ). eqb b 9)) _
      (λ x u q k. (search rules, λ j b. YieldsList-from_str_split 9 x.now (omega arith) (search rules) (search rules) (search rules)))
      (YieldsList-at c.flat_map.ensures.source (YieldsList-from_str_split 32 (before_comment c.args.line.now) (omega arith) (c.split.ensures.text ∙ c.before_comment.ensures) (search rules) c.split.ensures.pattern))
      c.flat_map.ensures.closure c.flat_map.ensures.front c.flat_map.ensures.back c.flat_map.ensures.done))
      c.filter.ensures.closure (λ x b q k. search (rules, tests))))
      c.take-found.ensures.count),
)

pub returns-clause-words : goal.returns-clause-words
returns-clause-words c =
    let whole = YieldsList-end c.loop-word.invariant.1 c.loop-word.yielded _ c.loop-word.yielded_by _ _ c.in-None.is c.next.ensures.steps in
    ap spelt c.loop-word.invariant.0 ∙ whole.0
