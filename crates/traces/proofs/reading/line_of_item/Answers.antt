use Rattle.std.proofs.Common.{◌∙◌, rules, tests, arith, length, sym}
use Rattle.std.proofs.lemmas.Iterator.Consumers.{YieldsList-at, YieldsList-turn, YieldsList-end}
use Rattle.std.proofs.lemmas.Iterator.Splits.{YieldsList-from_slice_split}
use Rattle.std.proofs.lemmas.List.{length_push}
use Rattle.std.specs.List.{slice_split}
use Rattle.trace_text.specs.Reading.{is_line_end}
use Rattle.traces.specs.Unfit.{item_line}
use Rattle.traces.proofs.Texts.{is-said, none-said, not-said}
use Rattle.traces.proofs.reading.line_of_item.Goals as goal

pub loop-line-preserved : goal.loop-line-preserved
loop-line-preserved c =
    let at = YieldsList-turn (YieldsList-at c.into_iter-line-iterator.ensures.into_iter_gives
    (YieldsList-from_slice_split _ is_line_end c.args.text.now c.split-line-items.ensures.rest
    c.split-line-items.ensures.done c.split-line-items.ensures.closure (λ x r q k. search (rules, tests))))
    c.loop-line.yielded _ c.loop-line.yielded_by _ _ c.in-Some.line c.in-Some.is c.next.ensures.steps in
    let all = slice_split is_line_end c.args.text.now in
    rw (length_push c.loop-line.yielded c.in-Some.line, c.left_after-left.ensures) (
      not-said c.loop-line.number c.loop-line.left c.in-Some.line.now all (length c.loop-line.yielded)
          (item_line 1 c.args.place all) at c.loop-line.invariant.0 (sym c.is_said.ensures ∙ c.if-is_said.false),
      let number = c.loop-line.invariant.1 in omega arith,
    )

pub returns-then-is_said : goal.returns-then-is_said
returns-then-is_said c =
    let at = YieldsList-turn (YieldsList-at c.into_iter-line-iterator.ensures.into_iter_gives
    (YieldsList-from_slice_split _ is_line_end c.args.text.now c.split-line-items.ensures.rest
    c.split-line-items.ensures.done c.split-line-items.ensures.closure (λ x r q k. search (rules, tests))))
    c.loop-line.yielded _ c.loop-line.yielded_by _ _ c.in-Some.line c.in-Some.is c.next.ensures.steps in
    let all = slice_split is_line_end c.args.text.now in
    is-said c.loop-line.number c.loop-line.left c.in-Some.line.now all (length c.loop-line.yielded)
    (item_line 1 c.args.place all) at c.loop-line.invariant.0 (sym c.is_said.ensures ∙ c.if-is_said.true)

pub returns : goal.returns
returns c =
    let end = YieldsList-end (YieldsList-at c.into_iter-line-iterator.ensures.into_iter_gives
    (YieldsList-from_slice_split _ is_line_end c.args.text.now c.split-line-items.ensures.rest
    c.split-line-items.ensures.done c.split-line-items.ensures.closure (λ x r q k. search (rules, tests))))
    c.loop-line.yielded _ c.loop-line.yielded_by _ _ c.in-None.is c.next.ensures.steps in
    let all = slice_split is_line_end c.args.text.now in
    none-said c.loop-line.number c.loop-line.left all (length c.loop-line.yielded) (item_line 1 c.args.place all) end.1
    c.loop-line.invariant.0
