use Rattle.std.proofs.Common.{rules, tests, length, inr}
use Rattle.std.proofs.lemmas.Iterator.Consumers.{YieldsList-at, YieldsList-turn, YieldsList-end}
use Rattle.std.proofs.lemmas.Iterator.Splits.{YieldsList-from_slice_split}
use Rattle.std.proofs.lemmas.List.{length_push}
use Rattle.std.proofs.lemmas.Result.{err_from_is_err_and}
use Rattle.std.specs.List.{slice_split}
use Rattle.dumps.specs.Dump.{is_line_end, nothing_taken, start_of, with_lines}
use Rattle.dumps.specs.Taking.{taken}
use Rattle.dumps.proofs.Lines.{fault-of-all, next-fault, next-line, no-more, whole-text}
use Rattle.dumps.proofs.dump.octets_by.Goals as goal

pub loop-line-preserved : goal.loop-line-preserved
loop-line-preserved c =
    let at = YieldsList-turn (YieldsList-at c.into_iter-line-iterator.ensures.into_iter_gives
    (YieldsList-from_slice_split _ is_line_end c.args.text.now c.split-line-items.ensures.rest
    c.split-line-items.ensures.done c.split-line-items.ensures.closure (λ x r q k. search (rules, tests))))
    c.loop-line.yielded _ c.loop-line.yielded_by _ _ c.in-Some.line c.in-Some.is c.next.ensures.steps in
    rw (length_push c.loop-line.yielded c.in-Some.line)
    (next-line (taken c.loop-line.dump) (taken c.take.new.self) c.in-Some.line.now
    (slice_split is_line_end c.args.text.now) (length c.loop-line.yielded)
    (with_lines (nothing_taken c.args.base (start_of c.args.base c.args.text.now))
    (slice_split is_line_end c.args.text.now)) at c.in_ok-take.ensures c.loop-line.invariant)

pub returns-in_err-take : goal.returns-in_err-take
returns-in_err-take c =
    let at = YieldsList-turn (YieldsList-at c.into_iter-line-iterator.ensures.into_iter_gives
    (YieldsList-from_slice_split _ is_line_end c.args.text.now c.split-line-items.ensures.rest
    c.split-line-items.ensures.done c.split-line-items.ensures.closure (λ x r q k. search (rules, tests))))
    c.loop-line.yielded _ c.loop-line.yielded_by _ _ c.in-Some.line c.in-Some.is c.next.ensures.steps in
    let fault = err_from_is_err_and c.from_residual.result c.from_residual.ensures.1 in
    rw (fault.1, fault.2) (fault-of-all c.in_err-take.field-0.0
    (with_lines (nothing_taken c.args.base (start_of c.args.base c.args.text.now))
    (slice_split is_line_end c.args.text.now))
    (next-fault (taken c.loop-line.dump) (taken c.take.new.self) c.in-Some.line.now
    (slice_split is_line_end c.args.text.now) (length c.loop-line.yielded)
    (with_lines (nothing_taken c.args.base (start_of c.args.base c.args.text.now))
    (slice_split is_line_end c.args.text.now)) c.in_err-take.field-0.0 at
    c.in_err-take.ensures c.loop-line.invariant))

pub returns : goal.returns
returns c =
    let end = YieldsList-end (YieldsList-at c.into_iter-line-iterator.ensures.into_iter_gives
    (YieldsList-from_slice_split _ is_line_end c.args.text.now c.split-line-items.ensures.rest
    c.split-line-items.ensures.done c.split-line-items.ensures.closure (λ x r q k. search (rules, tests))))
    c.loop-line.yielded _ c.loop-line.yielded_by _ _ c.in-None.is c.next.ensures.steps in
    rw c.end.ensures (inr (whole-text (taken c.loop-line.dump)
    (with_lines (nothing_taken c.args.base (start_of c.args.base c.args.text.now))
    (slice_split is_line_end c.args.text.now))
    (no-more (taken c.loop-line.dump) (slice_split is_line_end c.args.text.now) (length c.loop-line.yielded)
    (with_lines (nothing_taken c.args.base (start_of c.args.base c.args.text.now))
    (slice_split is_line_end c.args.text.now)) end.1 c.loop-line.invariant)))
