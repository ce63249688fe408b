use Rattle.std.proofs.Common.{◌≤◌, length, Ok}
use Rattle.t1_core.specs.Put.{FitsTerminalPut}
use Rattle.line_core.specs.Exchange.{Next, IsReady}
use Rattle.line_core.proofs.Running.{Holds}
use Rattle.line_core.proofs.exchanging.run.Given as goal

abbrev pub invariant-loop-put : goal.invariant-loop-put
invariant-loop-put g l = record {
  room : 258 ≤ length l.out;
  fits : FitsTerminalPut l.put;
  goes : (next : Next) → IsReady next l.fn.out (Ok l.fn.first)
      → Holds (g.L.TerminalLine.said l.fn.line) (g.L.TerminalLine.said l.line) l.most_blocks l.left next l.fn.terminal
      l.terminal l.out
      (Ok l.put);
}

abbrev pub decreases-loop-put : goal.decreases-loop-put
decreases-loop-put g l = l.left
