use Rattle.exchange_text.proofs.Complete.{one-exchange}
use Rattle.exchange_text.proofs.laws.one_exchange.Goals as goal

pub returns : goal.returns
returns c = one-exchange
