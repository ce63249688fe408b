use Rattle.std.proofs.Common.{arith}
use Rattle.std.proofs.lemmas.Result.{err_from_is_err_and}
use Rattle.program.proofs.Inputs.{fault-read, more-held, none-held, too-large, whole-read}
use Rattle.program.proofs.file.read_whole.Goals as goal

pub loop-filled-init : goal.loop-filled-init
loop-filled-init g c = record { so_far = none-held _ _ c.new-held.result.items c.new-held.ensures.items }

pub read_more-requires-clause-inside : goal.read_more-requires-clause-inside
read_more-requires-clause-inside g c = c.loop-filled.invariant.so_far.inside

pub read_more-requires-clause-most : goal.read_more-requires-clause-most
read_more-requires-clause-most g c = c.loop-filled.invariant.so_far.most

pub returns-in_err-count : goal.returns-in_err-count
returns-in_err-count g c =
    let fault = err_from_is_err_and c.from_residual.result c.from_residual.ensures.1 in
    rw (fault.1, fault.2) (fault-read _ _ _ _ _ _ c.loop-filled.held.items c.read_more.new.held.items
    c.loop-filled.filled c.loop-filled.invariant.so_far c.in_err-count.field-0.0 c.loop-filled-test.true
    c.in_err-count.ensures)

pub returns-then-count-eq0 : goal.returns-then-count-eq0
returns-then-count-eq0 g c =
    rw (c.of.ensures, c.truncate.ensures.items)
    (whole-read _ _ _ _ _ _ c.loop-filled.held.items c.read_more.new.held.items c.loop-filled.filled
    c.loop-filled.invariant.so_far c.in_ok-count.count c.if-count-eq0.true c.loop-filled-test.true
    c.in_ok-count.ensures)

pub loop-filled-preserved : goal.loop-filled-preserved
loop-filled-preserved g c = record {
  so_far =
      more-held _ _ _ _ _ _ c.loop-filled.held.items c.read_more.new.held.items c.loop-filled.filled
      c.loop-filled.invariant.so_far c.in_ok-count.count c.in_ok-count.ensures;
}

pub returns : goal.returns
returns g c = too-large _ c.loop-filled.held.items c.loop-filled.filled c.loop-filled.invariant.so_far
    (omega (arith, c.loop-filled-test.false))
