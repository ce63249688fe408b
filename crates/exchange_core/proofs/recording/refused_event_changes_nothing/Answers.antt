use Rattle.exchange_core.proofs.Recorded.{refused-stays}
use Rattle.exchange_core.proofs.recording.refused_event_changes_nothing.Goals as goal

pub returns : goal.returns
returns c = refused-stays
