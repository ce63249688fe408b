use Rattle.std.proofs.Common.{◌≡◌, ◌++◌, ℕ, List, take}
use Rattle.program.specs.LineAnswers.{HasSaid}
use Rattle.program.proofs.lines.AnsweredLines.feed.Given as goal

-- the octets before this one were taken
abbrev pub invariant-loop-octet : goal.invariant-loop-octet
invariant-loop-octet l = record {
  line_task : l.self.line_task ≡ l.fn.self.line_task;
  said : (read written : List ℕ) → HasSaid l.fn.self.line_task read written l.fn.self.line.items l.fn.self.text.items
      l.fn.self.status → HasSaid l.fn.self.line_task (read ++ take l.octet-index l.piece) written l.self.line.items
      l.self.text.items l.self.status;
}
