use Rattle.std.proofs.lemmas.Result.{err_from_is_err_and}
use Rattle.std.proofs.Common.{inl, inr, Ok, Err, arith}
use Rattle.t1_core.specs.declared.turns.EncodedTerminalTurn.TheVariants as put
use Rattle.line_core.specs.Exchange.{done, given_up, dead}
use Rattle.line_core.proofs.Running.{begins, closes, stops, holds-on}
use Rattle.line_core.proofs.exchanging.run.Goals as goal

pub loop-put-init : goal.loop-put-init
loop-put-init g c = record {
  room = c.requires.room;
  fits = c.requires.fits;
  goes = λ next ready. (
    next,
    begins (g.L.TerminalLine.said c.args.line.now) c.args.most_blocks next c.args.terminal.now,
    ready,
  );
}

pub returns-in-Send-2 : goal.returns-in-Send-2
returns-in-Send-2 g c = λ next ready. let held = rw c.in-Send-2.is at (c.loop-put.invariant.goes next ready) in
    stops _ _ _ _ _ _ _ c.loop-put.out _ _ (omega arith) held

pub returns-in-Answered : goal.returns-in-Answered
returns-in-Answered g c = λ next ready. elim c.in-Answered.is [
  | inl e ↦ let held = rw e at (c.loop-put.invariant.goes next ready) in
      closes _ _ _ _ _ _ _ c.loop-put.out (Ok put.Answered) done (λ here is. is) held
  | inr e ↦ let held = rw e at (c.loop-put.invariant.goes next ready) in
      closes _ _ _ _ _ _ _ c.loop-put.out (Ok put.IfsSet) done (λ here is. is) held
]

pub returns-in-GivenUp : goal.returns-in-GivenUp
returns-in-GivenUp g c = λ next ready. let held = rw c.in-GivenUp.is at (c.loop-put.invariant.goes next ready) in
    closes _ _ _ _ _ _ _ c.loop-put.out (Ok put.GivenUp) given_up (λ here is. is) held

pub returns-in-Dead : goal.returns-in-Dead
returns-in-Dead g c = λ next ready. let held = rw c.in-Dead.is at (c.loop-put.invariant.goes next ready) in
    closes _ _ _ _ _ _ _ c.loop-put.out (Ok put.Dead) dead (λ here is. is) held

pub loop-put-preserved : goal.loop-put-preserved
loop-put-preserved g c = record {
  room = omega arith;
  fits = c.in_ok-put-in-Send.ensures.fits;
  goes = λ next ready. let held = rw c.in-Send.is at (c.loop-put.invariant.goes next ready) in
      holds-on _ _ (g.L.TerminalLine.said c.talked.new.line) _ _ _ _ _ _ c.loop-put.out c.talked.new.out _ _
      (Ok c.in_ok-put-in-Send.put) c.if-left-gt0.true c.in_ok-put-in-Send.ensures.talk held;
}

pub returns-in_err-put-in-Send : goal.returns-in_err-put-in-Send
returns-in_err-put-in-Send g c = λ next ready. let held = rw c.in-Send.is at (c.loop-put.invariant.goes next ready) in
    let after = holds-on _ _ (g.L.TerminalLine.said c.talked.new.line) _ _ _ _ _ _ c.loop-put.out c.talked.new.out _ _
    (Err c.in_err-put-in-Send.field-0.0) c.if-left-gt0.true c.in_err-put-in-Send.ensures.talk held in
    let p = err_from_is_err_and c.from_residual.result c.from_residual.ensures.1 in
    rw (p.1, p.2) (closes _ _ _ _ _ _ _ c.talked.new.out (Err c.in_err-put-in-Send.field-0.0) _ (λ here is. is) after)
