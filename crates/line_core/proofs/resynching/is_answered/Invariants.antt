use Rattle.line_core.proofs.Asking.{Unanswered}
use Rattle.std.proofs.Common.{length, ◌≡◌}
use Rattle.line_core.proofs.resynching.is_answered.Given as goal

abbrev pub invariant-loop : goal.invariant-loop
invariant-loop g l = record {
  room : length l.room ≡ 259;
  asked : Unanswered (g.L.TerminalLine.said l.fn.line) (g.L.TerminalLine.said l.line) l.counter;
}
