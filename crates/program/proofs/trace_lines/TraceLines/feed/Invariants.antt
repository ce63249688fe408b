use Rattle.std.proofs.Common.{◌≤◌, ◌+◌, ◌++◌, ℕ, List, take}
use Rattle.judge_times.specs.Waiting.{Offered}
use Rattle.trace_judge.specs.declared.standing.Scope.{Scope}
use Rattle.program.specs.TraceLines.{open_number, HasCome}
use Rattle.program.proofs.trace_lines.TraceLines.feed.Given as goal

-- the octets before this one were taken
abbrev pub invariant-loop-octet : goal.invariant-loop-octet
invariant-loop-octet l = record {
  come : (offered : Offered) (scope : Scope) (read : List ℕ)
      → HasCome offered scope read l.fn.self.standing l.fn.self.line.items l.fn.self.fault
      → HasCome offered scope (read ++ take l.octet-index l.piece) l.self.standing l.self.line.items l.self.fault;
  number : open_number l.self.fault l.self.standing.number
      ≤ open_number l.fn.self.fault l.fn.self.standing.number + l.octet-index;
}
