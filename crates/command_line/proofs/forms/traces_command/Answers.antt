use Rattle.command_line.proofs.forms.traces_command.Goals as goal

pub returns : goal.returns
returns c =
    let record-is = c.offering-record.ensures _ _ c.exchanges_command.ensures c.record_command.ensures.form
    c.record_command.ensures.local in
    c.offering.ensures _ _ record-is c.judge_command.ensures.form c.judge_command.ensures.local
