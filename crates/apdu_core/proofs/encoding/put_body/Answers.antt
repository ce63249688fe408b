use Rattle.apdu_core.proofs.Puts.{puts-on}
use Rattle.apdu_core.proofs.encoding.put_body.Goals as goal

pub returns-in-LongBoth : goal.returns-in-LongBoth
returns-in-LongBoth c =
    rw c.in-LongBoth.is (puts-on _ _ _ _ _ _ _ _ c.put_long_part-end.ensures
    (rw c.long.ensures at c.put-in-LongBoth.ensures))
