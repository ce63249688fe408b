use Rattle.command_line.proofs.forms.replay_command.Goals as goal

pub returns-clause-form : goal.returns-clause-form
returns-clause-form c =
    let end-is = c.asking-end.ensures.form _ _ c.begun_command.ensures.form c.end_arg.ensures.rule
    c.end_arg.ensures.local in
    c.asking.ensures.form _ _ end-is c.json_arg.ensures.rule c.json_arg.ensures.local
