use Rattle.exchange_core.proofs.Reaching.{each-record-tells}
use Rattle.exchange_core.proofs.laws.each_record_tells.Goals as goal

pub returns : goal.returns
returns c = each-record-tells
