use Rattle.std.proofs.Common.{◌≡◌}
use Rattle.program.proofs.Turns.{HasComeTo}
use Rattle.program.proofs.lines.answer_lines.Given as goal

-- what was answered so far
abbrev pub invariant-loop-turn : goal.invariant-loop-turn
invariant-loop-turn g l = record {
  line_task : l.answered.line_task ≡ l.fn.line_task;
  so_far : HasComeTo l.fn.line_task (g.C.Conversation.said l.fn.conversation) (g.C.Conversation.said l.conversation)
      l.answered.line.items l.answered.text.items l.answered.status l._turn;
}
