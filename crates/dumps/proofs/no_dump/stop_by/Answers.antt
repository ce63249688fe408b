use Rattle.std.proofs.Common.{rules, tests, arith, length, add-one, refl}
use Rattle.std.proofs.lemmas.Iterator.Consumers.{YieldsList-at, YieldsList-turn, YieldsList-end}
use Rattle.std.proofs.lemmas.Iterator.Splits.{YieldsList-from_slice_split}
use Rattle.std.proofs.lemmas.List.{length_push}
use Rattle.std.specs.List.{slice_split}
use Rattle.dumps.specs.Dump.{is_line_end}
use Rattle.dumps.specs.DumpStop.{stop_by}
use Rattle.dumps.specs.Taking.{taken}
use Rattle.dumps.proofs.Stops.{room-all, room-next, stop-end, stop-here, stop-next}
use Rattle.dumps.proofs.no_dump.stop_by.Goals as goal

pub loop-line-init : goal.loop-line-init
loop-line-init c =
    let all = room-all is_line_end c.args.text.now in
    record {
      same = rw c.new-dump.ensures (rw c.start_of.ensures refl);
      room = omega arith;
    }

pub returns-in-Some-2 : goal.returns-in-Some-2
returns-in-Some-2 c =
    let at = YieldsList-turn (YieldsList-at c.into_iter-line-iterator.ensures.into_iter_gives
    (YieldsList-from_slice_split _ is_line_end c.args.text.now c.split-line-items.ensures.rest
    c.split-line-items.ensures.done c.split-line-items.ensures.closure (λ x r q k. search (rules, tests))))
    c.loop-line.yielded _ c.loop-line.yielded_by _ _ c.in-Some.line c.in-Some.is c.next.ensures.steps in
    let stopped = rw c.in-Some-2.is at c.in_ok-column.ensures in
    stop-here (length c.args.text.now) c.loop-line.start (taken c.loop-line.dump) c.in-Some.line.now
    (slice_split is_line_end c.args.text.now) (length c.loop-line.yielded) (stop_by c.args.base c.args.text.now)
    (c.in-Some-2.column, c.in-Some-2.wrong) at stopped.0 stopped.1 c.loop-line.invariant.same

pub overflow_add-start-in-None-2 : goal.overflow_add-start-in-None-2
overflow_add-start-in-None-2 c =
    let at = YieldsList-turn (YieldsList-at c.into_iter-line-iterator.ensures.into_iter_gives
    (YieldsList-from_slice_split _ is_line_end c.args.text.now c.split-line-items.ensures.rest
    c.split-line-items.ensures.done c.split-line-items.ensures.closure (λ x r q k. search (rules, tests))))
    c.loop-line.yielded _ c.loop-line.yielded_by _ _ c.in-Some.line c.in-Some.is c.next.ensures.steps in
    let next = room-next (slice_split is_line_end c.args.text.now) (length c.loop-line.yielded) c.in-Some.line.now at in
    omega arith

pub loop-line-preserved : goal.loop-line-preserved
loop-line-preserved c =
    let at = YieldsList-turn (YieldsList-at c.into_iter-line-iterator.ensures.into_iter_gives
    (YieldsList-from_slice_split _ is_line_end c.args.text.now c.split-line-items.ensures.rest
    c.split-line-items.ensures.done c.split-line-items.ensures.closure (λ x r q k. search (rules, tests))))
    c.loop-line.yielded _ c.loop-line.yielded_by _ _ c.in-Some.line c.in-Some.is c.next.ensures.steps in
    let next = room-next (slice_split is_line_end c.args.text.now) (length c.loop-line.yielded) c.in-Some.line.now at in
    let taken_so = rw c.in-None-2.is at c.in_ok-column.ensures in
    rw (length_push c.loop-line.yielded c.in-Some.line) (record {
      same = rw add-one (stop-next (length c.args.text.now) c.loop-line.start (taken c.loop-line.dump)
          (taken c.stop_at.new.dump) c.in-Some.line.now (slice_split is_line_end c.args.text.now)
          (length c.loop-line.yielded) (stop_by c.args.base c.args.text.now) at taken_so c.loop-line.invariant.same);
      room = omega arith;
    })

pub returns : goal.returns
returns c =
    let end = YieldsList-end (YieldsList-at c.into_iter-line-iterator.ensures.into_iter_gives
    (YieldsList-from_slice_split _ is_line_end c.args.text.now c.split-line-items.ensures.rest
    c.split-line-items.ensures.done c.split-line-items.ensures.closure (λ x r q k. search (rules, tests))))
    c.loop-line.yielded _ c.loop-line.yielded_by _ _ c.in-None.is c.next.ensures.steps in
    rw c.stop_at_end.ensures (stop-end (length c.args.text.now) c.loop-line.start (taken c.loop-line.dump)
    (slice_split is_line_end c.args.text.now) (length c.loop-line.yielded) (stop_by c.args.base c.args.text.now) end.1
    c.loop-line.invariant.same)
