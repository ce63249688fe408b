use Rattle.std.proofs.Common.{◌∙◌, rules, tests, length, sym}
use Rattle.std.proofs.lemmas.Iterator.Consumers.{YieldsList-at, YieldsList-turn, YieldsList-end}
use Rattle.std.proofs.lemmas.Iterator.Splits.{YieldsList-from_slice_split}
use Rattle.std.proofs.lemmas.List.{length_push}
use Rattle.std.proofs.lemmas.Result.{IfOk-weaker}
use Rattle.std.specs.List.{slice_split}
use Rattle.program_words.specs.PairLines.{is_line_end}
use Rattle.explainer.specs.Pairs.{lines_stop}
use Rattle.explainer.proofs.Pairing.{line-right, line-wrong, lines-right}
use Rattle.explainer.proofs.pairs.lines_stop.Goals as goal

pub loop-line-preserved : goal.loop-line-preserved
loop-line-preserved c =
    let at = YieldsList-turn (YieldsList-at c.into_iter-line-iterator.ensures.into_iter_gives
    (YieldsList-from_slice_split _ is_line_end c.args.text.now c.split-line-items.ensures.rest
    c.split-line-items.ensures.done c.split-line-items.ensures.closure (λ x r q k. search (rules, tests))))
    c.loop-line.yielded _ c.loop-line.yielded_by _ _ c.in-Some.line c.in-Some.is c.next.ensures.steps in
    let all = slice_split is_line_end c.args.text.now in
    rw (length_push c.loop-line.yielded c.in-Some.line, c.in_ok-start.ensures, c.in_ok-sum.ensures)
    (line-right c.loop-line.start c.in-Some.line.now all (length c.loop-line.yielded) (lines_stop 0 all) at
    (rw c.in_ok-stop.ensures at (sym c.is_some.ensures ∙ c.if-is_some.false)) c.loop-line.invariant)

pub returns-then-is_some : goal.returns-then-is_some
returns-then-is_some c =
    let at = YieldsList-turn (YieldsList-at c.into_iter-line-iterator.ensures.into_iter_gives
    (YieldsList-from_slice_split _ is_line_end c.args.text.now c.split-line-items.ensures.rest
    c.split-line-items.ensures.done c.split-line-items.ensures.closure (λ x r q k. search (rules, tests))))
    c.loop-line.yielded _ c.loop-line.yielded_by _ _ c.in-Some.line c.in-Some.is c.next.ensures.steps in
    let all = slice_split is_line_end c.args.text.now in
    IfOk-weaker c.placed.result _ _ (λ stop h. h ∙ rw c.in_ok-stop.ensures (line-wrong c.loop-line.start
    c.in-Some.line.now all (length c.loop-line.yielded) (lines_stop 0 all) at
    (rw c.in_ok-stop.ensures at (sym c.is_some.ensures ∙ c.if-is_some.true)) c.loop-line.invariant)) c.placed.ensures

pub returns : goal.returns
returns c =
    let end = YieldsList-end (YieldsList-at c.into_iter-line-iterator.ensures.into_iter_gives
    (YieldsList-from_slice_split _ is_line_end c.args.text.now c.split-line-items.ensures.rest
    c.split-line-items.ensures.done c.split-line-items.ensures.closure (λ x r q k. search (rules, tests))))
    c.loop-line.yielded _ c.loop-line.yielded_by _ _ c.in-None.is c.next.ensures.steps in
    let all = slice_split is_line_end c.args.text.now in
    lines-right c.loop-line.start all (length c.loop-line.yielded) (lines_stop 0 all) end.1 c.loop-line.invariant
