use Rattle.std.proofs.Common.{◌∙◌}
use Rattle.notes.proofs.Tabled.{instruction-named}
use Rattle.notes.proofs.command.standard_name.Goals as goal

pub returns : goal.returns
returns c = c.named.ensures ∙ instruction-named c.args.instruction
