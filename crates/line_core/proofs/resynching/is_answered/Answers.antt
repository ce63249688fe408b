use Rattle.std.proofs.Common.{arith, rules}
use Rattle.t1_core.specs.Terminal.{most_resynchs}
use Rattle.line_core.proofs.Asking.{asks-on, no-answer, ends-answered, ends-failed, ends-unanswered}
use Rattle.line_core.proofs.resynching.is_answered.Goals as goal

pub returns-in-Ok : goal.returns-in-Ok
returns-in-Ok g c =
    ends-answered _ _ (g.L.TerminalLine.said c.transceive.new.self) c.loop.counter most_resynchs (omega arith)
    (rw (c.is_answer.ensures.0 c.if-is_answer.true) at c.in-Ok.ensures.said) c.loop.invariant.asked

pub returns-in-Err : goal.returns-in-Err
returns-in-Err g c =
    ends-failed _ _ (g.L.TerminalLine.said c.transceive.new.self) c.loop.counter most_resynchs c.in-Err.fault
    (omega arith)
    c.in-Err.ensures.said c.loop.invariant.asked

pub loop-preserved : goal.loop-preserved
loop-preserved g c = record {
  room = omega arith;
  asked = asks-on _ _ (g.L.TerminalLine.said c.transceive.new.self) c.loop.counter _
      (no-answer c.in-Ok.heard c.transceive.new.room (λ is. search rules))
      c.in-Ok.ensures.said c.loop.invariant.asked;
}

pub returns : goal.returns
returns g c = ends-unanswered _ (g.L.TerminalLine.said c.loop.line) c.loop.counter most_resynchs (omega arith)
    c.loop.invariant.asked
