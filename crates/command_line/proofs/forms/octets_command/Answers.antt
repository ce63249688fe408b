use Rattle.command_line.proofs.forms.octets_command.Goals as goal

pub returns : goal.returns
returns c =
    let check-is = c.offering-check.ensures _ _ c.begun_command-begun.ensures.form c.input_command.ensures.form
    c.input_command.ensures.local in
    let show-is = c.offering-show.ensures _ _ check-is c.show_command.ensures.form c.show_command.ensures.local in
    c.offering.ensures _ _ show-is c.build_command.ensures.form c.build_command.ensures.local
