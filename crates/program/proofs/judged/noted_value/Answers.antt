use Rattle.program.proofs.judged.noted_value.Goals as goal

pub returns : goal.returns
returns c =
    let shown = rw c.requires at c.in_ok-said.ensures.0 in
    (c.in_ok-answer.ensures c.args.line_task.task.expected c.args.octets.now shown.0, shown.1)
