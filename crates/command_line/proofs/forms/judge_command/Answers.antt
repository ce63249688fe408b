use Rattle.command_line.proofs.forms.judge_command.Goals as goal

pub returns-clause-form : goal.returns-clause-form
returns-clause-form c =
    let clock-is = c.asking-clock.ensures.form _ _ c.judged_command-judged.ensures.form c.clock_arg.ensures.rule
    c.clock_arg.ensures.local in
    let rules-is = c.asking-rules.ensures.form _ _ clock-is c.rules_arg.ensures.rule c.rules_arg.ensures.local in
    c.asking.ensures.form _ _ rules-is c.json_arg.ensures.rule c.json_arg.ensures.local
