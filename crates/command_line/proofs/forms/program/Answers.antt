use Rattle.command_line.proofs.forms.program.Goals as goal

pub returns : goal.returns
unfolding Rattle.command_line.specs.Form.scard
returns c =
    c.offering.ensures _ _ c.traces_command.ensures c.simulate_command.ensures.form c.simulate_command.ensures.local
