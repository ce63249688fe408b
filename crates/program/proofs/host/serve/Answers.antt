use Rattle.std.proofs.Common.{◌∙◌}
use Rattle.program.proofs.host.serve.Goals as goal

pub returns : goal.returns
returns g c = (c.done-status.result, c.from.ensures ∙ c.number.ensures, c.done-status.ensures)
