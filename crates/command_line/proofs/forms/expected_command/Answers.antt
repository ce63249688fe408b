use Rattle.command_line.proofs.forms.expected_command.Goals as goal

pub returns-clause-form : goal.returns-clause-form
returns-clause-form c =
    let kind-is = c.asking-kind.ensures.form _ _ c.begun_command.ensures.form c.kind_arg.ensures.rule
    c.kind_arg.ensures.local in
    let ifs-is = c.asking-ifs.ensures.form _ _ kind-is c.ifs_arg.ensures.rule c.ifs_arg.ensures.local in
    c.asking.ensures.form _ _ ifs-is c.number_arg.ensures.rule c.number_arg.ensures.local
