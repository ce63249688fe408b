use Rattle.chain_core.proofs.OneState.{one-state}
use Rattle.chain_core.proofs.laws.one_state.Goals as goal

pub returns : goal.returns
returns c = one-state
