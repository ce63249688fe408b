use Rattle.command_line.proofs.forms.show_command.Goals as goal

pub returns-clause-form : goal.returns-clause-form
returns-clause-form c =
    c.asking.ensures.form _ _ c.input_command.ensures.form c.notes_arg.ensures.rule c.notes_arg.ensures.local
