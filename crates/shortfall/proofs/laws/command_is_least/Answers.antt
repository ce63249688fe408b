use Rattle.shortfall.proofs.Apdus.{command_is_least}
use Rattle.shortfall.proofs.laws.command_is_least.Goals as goal

pub returns : goal.returns
returns c = command_is_least
