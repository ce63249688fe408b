use Rattle.t1_core.specs.Terminal.{longest}
use Rattle.exchange_core.specs.Recording.{events_of}
use Rattle.exchange_core.proofs.recording.answers_are_replies.Goals as goal

pub returns : goal.returns
returns c = λ r. c.matched.ensures longest longest r.ifsc (events_of r.lines)
