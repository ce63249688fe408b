use Rattle.std.proofs.Common.{◌++◌, [], arith, rules, take}
use Rattle.std.proofs.lemmas.List.{length-take}
use Rattle.std.proofs.lemmas.Result.{err_from_is_err_and}
use Rattle.program.proofs.Unlimited.{all-passed, endless, fault-passed, none-passed, piece-passed, wanting-passed}
use Rattle.program.proofs.TraceLines.{none-come}
use Rattle.program.proofs.trace_lines.read_lines.Goals as goal

pub loop-turn-init : goal.loop-turn-init
loop-turn-init g c = record {
  read = [];
  so_far = none-passed _ _;
  come = none-come c.args.offer c.args.scope _ _ (search rules) (search rules);
  number = search rules;
}

pub returns-in_err-count : goal.returns-in_err-count
returns-in_err-count g c =
    let fault = err_from_is_err_and c.from_residual.result c.from_residual.ensures.1 in
    rw (fault.1, fault.2) (fault-passed _ _ _ _ _ _ _ c.loop-turn.invariant.read c.read_piece.new.room
    c.loop-turn.invariant.so_far c.in_err-count.field-0.0 c.in_err-count.ensures.read)

pub returns-in_err-last : goal.returns-in_err-last
returns-in_err-last g c =
    let fault = err_from_is_err_and c.from_residual-in_err-last.result c.from_residual-in_err-last.ensures.1 in
    rw (fault.1, fault.2) (wanting-passed _ _ _ _ _ _ _ c.loop-turn.invariant.read c.read_piece.new.room
    c.loop-turn.invariant.so_far c.in_ok-count.count c.in_ok-count.ensures.read)

pub returns-then-count-eq0 : goal.returns-then-count-eq0
returns-then-count-eq0 g c = (
  c.loop-turn.invariant.read,
  all-passed _ _ _ _ _ _ _ c.loop-turn.invariant.read c.read_piece.new.room c.loop-turn.invariant.so_far
      c.in_ok-count.count c.if-count-eq0.true c.in_ok-count.ensures.read,
  c.in_ok-last.ensures c.args.offer c.args.scope c.loop-turn.invariant.read c.loop-turn.invariant.come,
)

pub returns-in_err-feed : goal.returns-in_err-feed
returns-in_err-feed g c =
    let fault = err_from_is_err_and c.from_residual-in_err-feed.result c.from_residual-in_err-feed.ensures.1 in
    rw (fault.1, fault.2) (wanting-passed _ _ _ _ _ _ _ c.loop-turn.invariant.read c.read_piece.new.room
    c.loop-turn.invariant.so_far c.in_ok-count.count c.in_ok-count.ensures.read)

pub loop-turn-preserved : goal.loop-turn-preserved
loop-turn-preserved g c = record {
  read = c.loop-turn.invariant.read ++ take c.in_ok-count.count c.read_piece.new.room;
  so_far = piece-passed _ _ _ _ _ _ _ c.loop-turn.invariant.read c.read_piece.new.room c.loop-turn.invariant.so_far
      c.in_ok-count.count c.if-count-eq0.false c.in_ok-count.ensures.read;
  come = c.in_ok-feed.ensures.come c.args.offer c.args.scope c.loop-turn.invariant.read c.loop-turn.invariant.come;
  number = omega (
    arith,
    c.in_ok-feed.ensures.number,
    c.loop-turn.invariant.number,
    length-take c.in_ok-count.count c.read_piece.new.room,
    c.in_ok-count.ensures.read.inside,
    c.in_ok-count.ensures.same,
  );
}

pub returns : goal.returns
returns g c = endless _ c.loop-turn.invariant.read c.loop-turn._turn c.loop-turn.invariant.so_far
    (omega (arith, c.loop-turn-test.false))
