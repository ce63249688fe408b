use Rattle.command_line.proofs.forms.exchanges_command.Goals as goal

pub returns : goal.returns
returns c =
    let replay-is = c.offering-replay.ensures _ _ c.octets_command.ensures c.replay_command.ensures.form
    c.replay_command.ensures.local in
    let migrate-is = c.offering-migrate.ensures _ _ replay-is c.migrate_command.ensures.form
    c.migrate_command.ensures.local in
    let apdus-is = c.offering-apdus.ensures _ _ migrate-is c.apdus_command.ensures.form c.apdus_command.ensures.local in
    c.offering.ensures _ _ apdus-is c.draw_command.ensures.form c.draw_command.ensures.local
