use Rattle.std.proofs.Common.{sym, subst}
use Rattle.tlv_core.specs.Dol.{IsDol}
use Rattle.stack_laws.proofs.again.dol_again.Goals as goal

pub returns-in-Ok : goal.returns-in-Ok
returns-in-Ok c =
    let b = c.as_slice.result.now in
    c.one_list.ensures c.in-Ok.again c.args.dol.now b c.in-Ok.ensures.found.1
    (subst (IsDol c.args.dol.now) (sym c.as_slice.ensures.value) c.in_ok-octets.ensures)
