use Rattle.std.proofs.Common.{rules, tests, arith, length, inr}
use Rattle.std.proofs.lemmas.Iterator.Consumers.{YieldsList-at, YieldsList-turn, YieldsList-end}
use Rattle.std.proofs.lemmas.Iterator.Splits.{YieldsList-from_slice_split}
use Rattle.std.proofs.lemmas.List.{length_push}
use Rattle.std.proofs.lemmas.List.Splits.{length-slice_split}
use Rattle.std.proofs.lemmas.List.Sums.{count_by-le-length}
use Rattle.std.proofs.lemmas.Result.{err_from_is_err_and}
use Rattle.std.specs.List.{slice_split}
use Rattle.trace_text.specs.Reading.{is_line_end}
use Rattle.traces.specs.Reading.{nothing_taken, with_lines}
use Rattle.traces.proofs.Texts.{fault-of-text, next-fault, next-line, no-more, whole-text}
use Rattle.traces.proofs.reading.read_trace.Goals as goal

pub take-requires : goal.take-requires
take-requires c =
    let at = YieldsList-turn (YieldsList-at c.into_iter-line-iterator.ensures.into_iter_gives
    (YieldsList-from_slice_split _ is_line_end c.args.text.now c.split-line-items.ensures.rest
    c.split-line-items.ensures.done c.split-line-items.ensures.closure (λ x r q k. search (rules, tests))))
    c.loop-line.yielded _ c.loop-line.yielded_by _ _ c.in-Some.line c.in-Some.is c.next.ensures.steps in
    let parts = length-slice_split is_line_end c.args.text.now in
    let few = count_by-le-length is_line_end c.args.text.now in
    let number = c.loop-line.invariant.number in
    let before = at.0 in
    omega arith

pub loop-line-preserved : goal.loop-line-preserved
loop-line-preserved c =
    let at = YieldsList-turn (YieldsList-at c.into_iter-line-iterator.ensures.into_iter_gives
    (YieldsList-from_slice_split _ is_line_end c.args.text.now c.split-line-items.ensures.rest
    c.split-line-items.ensures.done c.split-line-items.ensures.closure (λ x r q k. search (rules, tests))))
    c.loop-line.yielded _ c.loop-line.yielded_by _ _ c.in-Some.line c.in-Some.is c.next.ensures.steps in
    rw (length_push c.loop-line.yielded c.in-Some.line)
    (next-line c.loop-line.taken c.take.new.self c.in-Some.line.now (slice_split is_line_end c.args.text.now)
    (length c.loop-line.yielded) (with_lines nothing_taken (slice_split is_line_end c.args.text.now)) at
    c.in_ok-take.ensures.said c.in_ok-take.ensures.number c.loop-line.invariant)

pub returns-in_err-take : goal.returns-in_err-take
returns-in_err-take c =
    let at = YieldsList-turn (YieldsList-at c.into_iter-line-iterator.ensures.into_iter_gives
    (YieldsList-from_slice_split _ is_line_end c.args.text.now c.split-line-items.ensures.rest
    c.split-line-items.ensures.done c.split-line-items.ensures.closure (λ x r q k. search (rules, tests))))
    c.loop-line.yielded _ c.loop-line.yielded_by _ _ c.in-Some.line c.in-Some.is c.next.ensures.steps in
    let fault = err_from_is_err_and c.from_residual.result c.from_residual.ensures.1 in
    rw (fault.1, fault.2) (fault-of-text c.in_err-take.field-0.0 c.args.text.now
    (next-fault c.loop-line.taken c.in-Some.line.now (slice_split is_line_end c.args.text.now)
    (length c.loop-line.yielded) (with_lines nothing_taken (slice_split is_line_end c.args.text.now))
    c.in_err-take.field-0.0 at c.in_err-take.ensures.said c.loop-line.invariant))

pub returns : goal.returns
returns c =
    let end = YieldsList-end (YieldsList-at c.into_iter-line-iterator.ensures.into_iter_gives
    (YieldsList-from_slice_split _ is_line_end c.args.text.now c.split-line-items.ensures.rest
    c.split-line-items.ensures.done c.split-line-items.ensures.closure (λ x r q k. search (rules, tests))))
    c.loop-line.yielded _ c.loop-line.yielded_by _ _ c.in-None.is c.next.ensures.steps in
    rw c.end.ensures (inr (whole-text c.loop-line.taken c.args.text.now
    (no-more c.loop-line.taken (slice_split is_line_end c.args.text.now) (length c.loop-line.yielded)
    (with_lines nothing_taken (slice_split is_line_end c.args.text.now)) end.1 c.loop-line.invariant)))
