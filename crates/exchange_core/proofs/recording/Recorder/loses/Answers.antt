use Rattle.exchange_core.proofs.Acting.{lent-sent}
use Rattle.exchange_core.proofs.recording.Recorder.loses.Goals as goal

pub calls_terminal-requires : goal.calls_terminal-requires
calls_terminal-requires c = lent-sent _ _ c.if-is_none.ensures c.under_way.ensures.last
