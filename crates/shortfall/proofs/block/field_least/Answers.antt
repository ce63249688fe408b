use Rattle.std.proofs.Common.{sym}
use Rattle.shortfall.proofs.Blocks.{field-none}
use Rattle.shortfall.proofs.block.field_least.Goals as goal

pub returns-in-None : goal.returns-in-None
returns-in-None c = sym (field-none c.args.octet c.in-None.ensures.none)
