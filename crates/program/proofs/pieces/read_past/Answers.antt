use Rattle.std.proofs.Common.{◌++◌, [], arith, take}
use Rattle.std.proofs.lemmas.Result.{err_from_is_err_and}
use Rattle.program.proofs.Unlimited.{all-passed, endless, fault-passed, none-passed, piece-passed}
use Rattle.program.proofs.pieces.read_past.Goals as goal

pub loop-turn-init : goal.loop-turn-init
loop-turn-init g c = record { read = []; so_far = none-passed _ _ }

pub returns-in_err-count : goal.returns-in_err-count
returns-in_err-count g c =
    let fault = err_from_is_err_and c.from_residual.result c.from_residual.ensures.1 in
    rw (fault.1, fault.2) (fault-passed _ _ _ _ _ _ _ c.loop-turn.invariant.read c.read_piece.new.room
    c.loop-turn.invariant.so_far c.in_err-count.field-0.0 c.in_err-count.ensures.read)

pub returns-then-count-eq0 : goal.returns-then-count-eq0
returns-then-count-eq0 g c = (
  c.loop-turn.invariant.read,
  all-passed _ _ _ _ _ _ _ c.loop-turn.invariant.read c.read_piece.new.room c.loop-turn.invariant.so_far
      c.in_ok-count.count c.if-count-eq0.true c.in_ok-count.ensures.read,
)

pub loop-turn-preserved : goal.loop-turn-preserved
loop-turn-preserved g c = record {
  read = c.loop-turn.invariant.read ++ take c.in_ok-count.count c.read_piece.new.room;
  so_far = piece-passed _ _ _ _ _ _ _ c.loop-turn.invariant.read c.read_piece.new.room c.loop-turn.invariant.so_far
      c.in_ok-count.count c.if-count-eq0.false c.in_ok-count.ensures.read;
}

pub returns : goal.returns
returns g c = endless _ c.loop-turn.invariant.read c.loop-turn._turn c.loop-turn.invariant.so_far
    (omega (arith, c.loop-turn-test.false))
