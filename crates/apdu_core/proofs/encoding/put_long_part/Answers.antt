use Rattle.apdu_core.proofs.Puts.{puts-on}
use Rattle.apdu_core.proofs.encoding.put_long_part.Goals as goal

pub returns : goal.returns
returns c = puts-on _ _ _ _ _ _ _ _ c.put_long-end.ensures c.put.ensures
