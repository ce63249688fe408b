use Rattle.std.proofs.Common.{sym, subst}
use Rattle.tlv_core.specs.Forest.{IsForest, largest}
use Rattle.stack_laws.proofs.again.forest_again.Goals as goal

pub returns-in-Ok : goal.returns-in-Ok
returns-in-Ok c =
    let b = c.as_slice.result.now in
    let spelled = subst (IsForest largest c.args.forest.now) (sym c.as_slice.ensures.value) c.in_ok-octets.ensures in
    c.one_forest.ensures 1048576 largest c.in-Ok.again c.args.forest.now b c.in-Ok.ensures.found.1 spelled
