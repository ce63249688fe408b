use Rattle.exchange_text.proofs.Complete.{exchange-back}
use Rattle.exchange_text.proofs.WholeSound.{exchange-sound}
use Rattle.exchange_text.proofs.laws.written_is_read.Goals as goal

pub returns-clause-written : goal.returns-clause-written
returns-clause-written c = exchange-back

pub returns-clause-read : goal.returns-clause-read
returns-clause-read c = exchange-sound
