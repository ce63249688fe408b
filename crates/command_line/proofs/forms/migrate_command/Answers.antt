use Rattle.command_line.proofs.forms.migrate_command.Goals as goal

pub returns-clause-form : goal.returns-clause-form
returns-clause-form c =
    c.asking.ensures.form _ _ c.begun_command.ensures.form c.json_arg.ensures.rule c.json_arg.ensures.local
