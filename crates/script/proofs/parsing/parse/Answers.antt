use Rattle.std.proofs.Common.{◌≡◌, ℕ, ◌+◌, List, length, drop, Ok, Err, sym, ap, ◌∙◌, subst, arith, rules}
use Rattle.std.proofs.lemmas.Iterator.Consumers.{YieldsList-at, YieldsList-from_enumerate, YieldsList-turn, YieldsList-end, count_from_yields_List}
use Rattle.std.proofs.lemmas.Iterator.Splits.{YieldsList-from_lines}
use Rattle.std.proofs.lemmas.List.{drop_all, length_push}
use Rattle.std.proofs.lemmas.List.FromFn.{length-enumerate_from}
use Rattle.script.specs.Faults.{at_line}
use Rattle.script.specs.Lines.{lines_of, Parses}
use Rattle.script.proofs.Parsed.{line_parsed, ends}
use Rattle.script.proofs.parsing.parse.Goals as goal

pub loop-index-init : goal.loop-index-init
loop-index-init c = (
  λ r k. subst (λ (p : _). Parses 1 p (lines_of c.args.text.now) r) c.new-reader.ensures k,
  YieldsList-at c.into_iter-index-iterator.ensures.into_iter_gives
      (YieldsList-from_enumerate (YieldsList-at c.enumerate-index-items.ensures.source (YieldsList-from_lines c.args.text.now c.lines.ensures.rest)) c.enumerate-index-items.ensures.count),
)

pub returns-in_err-reader-clause-parsed : goal.returns-in_err-reader-clause-parsed
returns-in_err-reader-clause-parsed c =
    let fault = c.in_err-reader.field-0.0 in
    let turn = YieldsList-turn c.loop-index.invariant.1 c.loop-index.yielded _ c.loop-index.yielded_by _ _ (c.in-Some.index, c.in-Some.line) c.in-Some.is c.next.ensures.steps in
    let e : c.from_residual.result ≡ Err fault = search rules in
    c.loop-index.invariant.0 c.from_residual.result
    (line_parsed (lines_of c.args.text.now) (length c.loop-index.yielded) c.in-Some.index c.in-Some.line.now turn c.loop-index.reader (Err fault) c.in_err-reader.ensures c.from_residual.result e)

pub loop-index-preserved : goal.loop-index-preserved
loop-index-preserved c =
    let ls = lines_of c.args.text.now in
    let x = c.in_ok-reader.reader in
    let turn = YieldsList-turn c.loop-index.invariant.1 c.loop-index.yielded _ c.loop-index.yielded_by _ _ (c.in-Some.index, c.in-Some.line) c.in-Some.is c.next.ensures.steps in (
      λ r more.
          c.loop-index.invariant.0 r
          (line_parsed ls (length c.loop-index.yielded) c.in-Some.index c.in-Some.line.now turn c.loop-index.reader (Ok x) c.in_ok-reader.ensures r
          (subst (λ (n : ℕ). Parses (n + 1) x (drop n ls) r) (length_push c.loop-index.yielded (c.in-Some.index, c.in-Some.line)) more)),
      c.loop-index.invariant.1,
    )

pub returns-clause-parsed : goal.returns-clause-parsed
returns-clause-parsed c =
    let ls = lines_of c.args.text.now in
    let k = length c.loop-index.yielded in
    let reader = c.loop-index.reader in
    let r = c.at_line.result in
    let end = YieldsList-end c.loop-index.invariant.1 c.loop-index.yielded _ c.loop-index.yielded_by _ _ c.in-None.is c.next.ensures.steps in
    let all : k ≡ length ls = end.1 ∙ length-enumerate_from 0 ls in
    let counted : c.count.result ≡ length ls = count_from_yields_List c.lines-2.result _ c.count.ensures.ran (YieldsList-from_lines c.args.text.now c.lines-2.ensures.rest) in
    let ended = ends (k + 1) reader c.finish.result r (c.at_line.ensures ∙ ap (λ (n : ℕ). at_line (n + 1) c.finish.result) (counted ∙ sym all)) c.finish.ensures in
    c.loop-index.invariant.0 r (subst (λ (left : List (List ℕ)). Parses (k + 1) reader left r) (sym (drop_all k ls (omega (arith, all)))) ended)
