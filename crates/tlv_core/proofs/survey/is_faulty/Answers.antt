use Rattle.std.proofs.Common.{◌↔◌, IsTrue, sym, subst}
use Rattle.tlv_core.specs.declared.survey.Fault.{Fault}
use Rattle.tlv_core.specs.Improper.{HasFault}
use Rattle.tlv_core.specs.Own.{OwnIs}
use Rattle.tlv_core.proofs.survey.is_faulty.Goals as goal

pub returns-in-Tag : goal.returns-in-Tag
returns-in-Tag c =
    subst (λ (f : Fault). IsTrue c.is_other_kind.result ↔ OwnIs (HasFault f) c.args.depth c.args.node.now)
    (sym c.in-Tag.is) (c.is_other_kind.ensures c.args.depth)

pub returns-in-Form : goal.returns-in-Form
returns-in-Form c =
    subst (λ (f : Fault). IsTrue c.is_unfit.result ↔ OwnIs (HasFault f) c.args.depth c.args.node.now)
    (sym c.in-Form.is) (c.is_unfit.ensures c.args.depth)
