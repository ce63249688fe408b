use Rattle.std.proofs.Common.{refl}
use Rattle.program.proofs.judged.noted_object.Goals as goal

pub returns : goal.returns
returns c =
    let made = rw c.requires at c.in_ok-said.ensures in (
      c.in_ok-answer.ensures c.args.line_task.task.expected c.args.octets.now made.0.0
          (λ refused. let line = made.1 refl refl refused in
          (line.0, line.1, rw (c.get.ensures, c.as_str.ensures.value) line.2)),
      made.0.1,
    )
