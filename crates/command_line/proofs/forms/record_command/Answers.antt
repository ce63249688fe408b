use Rattle.command_line.proofs.forms.record_command.Goals as goal

pub returns-clause-form : goal.returns-clause-form
returns-clause-form c =
    let atr-is = c.asking-atr.ensures.form _ _ c.begun_command.ensures.form c.atr_arg.ensures.rule
    c.atr_arg.ensures.local in
    c.asking.ensures.form _ _ atr-is c.json_arg.ensures.rule c.json_arg.ensures.local
