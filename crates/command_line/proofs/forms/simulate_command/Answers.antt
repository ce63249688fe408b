use Rattle.command_line.proofs.forms.simulate_command.Goals as goal

pub returns-clause-form : goal.returns-clause-form
returns-clause-form c =
    let lose-is = c.asking-lose.ensures.form _ _ c.session_command.ensures.form c.list_arg.ensures.rule
    c.list_arg.ensures.local in
    let damage-is = c.asking-damage.ensures.form _ _ lose-is c.list_arg-2.ensures.rule c.list_arg-2.ensures.local in
    c.asking.ensures.form _ _ damage-is c.list_arg-3.ensures.rule c.list_arg-3.ensures.local
