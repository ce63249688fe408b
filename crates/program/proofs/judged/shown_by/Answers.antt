use Rattle.std.specs.Prelude.{string_bytes}
use Rattle.program.proofs.Annotating.{refusal-by}
use Rattle.program.proofs.Explaining.{says-by}
use Rattle.program.proofs.judged.shown_by.Goals as goal

pub returns : goal.returns
returns g c = (
  (
    c.in_ok-answer.ensures.answer,
    says-by c.args.line_task.explains (g.C.Codec.codec c.args.line_task.task.expected) _ _ c.args.octets.now _
        c.asked_note-explanation.result c.in_ok-answer.ensures.verdict c.asked_note-explanation.ensures,
  ),
  λ noted json refused. refusal-by (g.C.Codec.codec c.args.line_task.task.expected) c.args.octets.now
      (string_bytes c.in_ok-words.words) c.in_ok-line.line _ _ _
      (g.met.C.Codec.named c.args.line_task.task.expected) c.in_ok-answer.ensures.verdict c.in_ok-answer.ensures.ended
      refused (rw c.as_str.ensures.value at (c.in_ok-line.ensures noted json)),
)
