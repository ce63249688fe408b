use Rattle.std.proofs.Common.{◌∙◌}
use Rattle.notes.proofs.Tabled.{status-named}
use Rattle.notes.proofs.response.status_name.Goals as goal

pub returns : goal.returns
returns c = c.named.ensures ∙ status-named c.args.sw1 c.args.sw2
