use Rattle.traces.proofs.Again.{gets-no-note}
use Rattle.traces.proofs.laws.recorded_gets_no_note.Goals as goal

pub returns : goal.returns
returns c = gets-no-note
