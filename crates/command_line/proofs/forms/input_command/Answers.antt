use Rattle.command_line.proofs.forms.input_command.Goals as goal

pub returns-clause-form : goal.returns-clause-form
returns-clause-form c =
    let hex-is = c.asking-hex.ensures.form _ _ c.expected_command.ensures.form c.hex_arg.ensures.rule
    c.hex_arg.ensures.local in
    let stdin-is = c.asking-stdin.ensures.form _ _ hex-is c.stdin_arg.ensures.rule c.stdin_arg.ensures.local in
    c.asking.ensures.form _ _ stdin-is c.json_arg.ensures.rule c.json_arg.ensures.local
