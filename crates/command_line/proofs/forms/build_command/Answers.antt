use Rattle.command_line.proofs.forms.build_command.Goals as goal

pub returns-clause-form : goal.returns-clause-form
returns-clause-form c =
    let what-is = c.asking-what.ensures.form _ _ c.begun_command.ensures.form c.what_arg.ensures.rule
    c.what_arg.ensures.local in
    let words-is = c.asking-words.ensures.form _ _ what-is c.words_arg.ensures.rule c.words_arg.ensures.local in
    let stdin-is = c.asking-stdin.ensures.form _ _ words-is c.stdin_arg.ensures.rule c.stdin_arg.ensures.local in
    c.asking.ensures.form _ _ stdin-is c.json_arg.ensures.rule c.json_arg.ensures.local
