use Rattle.command_line.proofs.forms.session_command.Goals as goal

pub returns-clause-form : goal.returns-clause-form
returns-clause-form c =
    let atr-is = c.asking-atr.ensures.form _ _ c.begun_command.ensures.form c.atr_arg.ensures.rule
    c.atr_arg.ensures.local in
    let pairs-is = c.asking-pairs.ensures.form _ _ atr-is c.pairs_arg.ensures.rule c.pairs_arg.ensures.local in
    let ifsd-is = c.asking-ifsd.ensures.form _ _ pairs-is c.ifsd_arg.ensures.rule c.ifsd_arg.ensures.local in
    let lines-is = c.asking-lines.ensures.form _ _ ifsd-is c.lines_arg.ensures.rule c.lines_arg.ensures.local in
    c.asking.ensures.form _ _ lines-is c.json_arg.ensures.rule c.json_arg.ensures.local
