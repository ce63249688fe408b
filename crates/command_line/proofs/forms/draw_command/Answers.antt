use Rattle.command_line.proofs.forms.draw_command.Goals as goal

pub returns-clause-form : goal.returns-clause-form
returns-clause-form c =
    let svg-is = c.asking-svg.ensures.form _ _ c.begun_command.ensures.form c.svg_arg.ensures.rule
    c.svg_arg.ensures.local in
    c.asking.ensures.form _ _ svg-is c.json_arg.ensures.rule c.json_arg.ensures.local
