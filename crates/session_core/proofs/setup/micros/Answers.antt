use Rattle.session_core.proofs.Times.{rounded-up}
use Rattle.session_core.proofs.setup.micros.Goals as goal

pub returns : goal.returns
returns c = rounded-up c.args.parts c.args.in_second c.requires.least
