use Rattle.program.proofs.Explaining.{says-by}
use Rattle.program.proofs.judged.checked_by.Goals as goal

pub returns : goal.returns
returns g c = (
  c.in_ok-answer.ensures.answer,
  says-by c.args.line_task.explains (g.C.Codec.codec c.args.line_task.task.expected) _ _ c.args.octets.now _
      c.asked_note-explanation.result c.in_ok-answer.ensures.verdict c.asked_note-explanation.ensures,
)
