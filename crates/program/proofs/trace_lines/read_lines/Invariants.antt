use Rattle.std.proofs.Common.{◌≤◌, ◌+◌, ◌*◌, List, ℕ}
use Rattle.program.specs.Calls.{calls_of}
use Rattle.program.specs.TraceLines.{open_number, HasCome}
use Rattle.program.proofs.Unlimited.{IsPassed}
use Rattle.program.proofs.trace_lines.read_lines.Given as goal

-- each call so far read a piece, and the lines that ended are judged
abbrev pub invariant-loop-turn : goal.invariant-loop-turn
invariant-loop-turn g l = record {
  read : List ℕ;
  so_far : IsPassed (calls_of g.R.Source.remaining g.R.Source.failures l.fn.reader l.reader) read l._turn;
  come : HasCome l.fn.offer l.fn.scope read l.lines.standing l.lines.line.items l.lines.fault;
  number : open_number l.lines.fault l.lines.standing.number ≤ l._turn * 8192 + 1;
}
