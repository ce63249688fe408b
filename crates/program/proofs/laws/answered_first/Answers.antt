use Rattle.program.proofs.Waiting.{waits}
use Rattle.program.proofs.laws.answered_first.Goals as goal

pub returns : goal.returns
returns c = λ line_task events before after event ended lines is hears.
    waits line_task events before after event ended lines is hears
