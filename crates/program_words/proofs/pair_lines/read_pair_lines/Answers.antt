use Rattle.std.proofs.Common.{rules, tests, length, inr}
use Rattle.std.proofs.lemmas.Iterator.Consumers.{YieldsList-at, YieldsList-turn, YieldsList-end}
use Rattle.std.proofs.lemmas.Iterator.Splits.{YieldsList-from_slice_split}
use Rattle.std.proofs.lemmas.List.{length_push}
use Rattle.std.proofs.lemmas.Result.{err_from_is_err_and}
use Rattle.std.specs.List.{slice_split}
use Rattle.program_words.specs.PairLines.{is_line_end, pairs_in, pairs_of_line}
use Rattle.program_words.proofs.Groups.{next-fault, next-group, no-more, none-yet}
use Rattle.program_words.proofs.pair_lines.read_pair_lines.Goals as goal

pub loop-line-init : goal.loop-line-init
loop-line-init c = none-yet pairs_of_line c.new-pairs.result.items (slice_split is_line_end c.args.text.now)
    (search rules)

pub loop-line-preserved : goal.loop-line-preserved
loop-line-preserved c =
    let at = YieldsList-turn (YieldsList-at c.into_iter-line-iterator.ensures.into_iter_gives
    (YieldsList-from_slice_split _ is_line_end c.args.text.now c.split-line-items.ensures.rest
    c.split-line-items.ensures.done c.split-line-items.ensures.closure (λ x r q k. search (rules, tests))))
    c.loop-line.yielded _ c.loop-line.yielded_by _ _ c.in-Some.line c.in-Some.is c.next.ensures.steps in
    rw (length_push c.loop-line.yielded c.in-Some.line)
    (next-group pairs_of_line c.loop-line.pairs.items c.push_line.new.pairs.items c.in-Some.line.now
    (slice_split is_line_end c.args.text.now) (length c.loop-line.yielded) (pairs_in c.args.text.now) at
    c.in_ok-push_line.ensures c.loop-line.invariant)

pub returns-in_err-push_line : goal.returns-in_err-push_line
returns-in_err-push_line c =
    let at = YieldsList-turn (YieldsList-at c.into_iter-line-iterator.ensures.into_iter_gives
    (YieldsList-from_slice_split _ is_line_end c.args.text.now c.split-line-items.ensures.rest
    c.split-line-items.ensures.done c.split-line-items.ensures.closure (λ x r q k. search (rules, tests))))
    c.loop-line.yielded _ c.loop-line.yielded_by _ _ c.in-Some.line c.in-Some.is c.next.ensures.steps in
    let fault = err_from_is_err_and c.from_residual.result c.from_residual.ensures.1
    in
    rw (fault.1, fault.2) (next-fault pairs_of_line c.loop-line.pairs.items c.push_line.new.pairs.items
    c.in-Some.line.now
    (slice_split is_line_end c.args.text.now) (length c.loop-line.yielded) (pairs_in c.args.text.now)
    c.in_err-push_line.field-0.0 at c.in_err-push_line.ensures c.loop-line.invariant)

pub returns : goal.returns
returns c =
    let end = YieldsList-end (YieldsList-at c.into_iter-line-iterator.ensures.into_iter_gives
    (YieldsList-from_slice_split _ is_line_end c.args.text.now c.split-line-items.ensures.rest
    c.split-line-items.ensures.done c.split-line-items.ensures.closure (λ x r q k. search (rules, tests))))
    c.loop-line.yielded _ c.loop-line.yielded_by _ _ c.in-None.is c.next.ensures.steps in
    rw c.of.ensures (inr (no-more pairs_of_line c.loop-line.pairs.items (slice_split is_line_end c.args.text.now)
    (length c.loop-line.yielded) (pairs_in c.args.text.now) end.1 c.loop-line.invariant))
