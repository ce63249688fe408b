use Rattle.std.proofs.Common.{◌∙◌, Ok, ap, refl, subst, sym, List}
use Rattle.tlv_core.specs.Fill.{filled, HasDuplicate, IsFillFault}
use Rattle.tlv_core.specs.declared.known.Known.{Known}
use Rattle.program_octets.specs.Verdicts.{duplicate, full}
use Rattle.program_octets.specs.ListTexts.{filled_text}
use Rattle.program_octets.specs.declared.said.Said.TheVariants as saying
use Rattle.program_octets.proofs.list.filled.Goals as goal

pub returns-in_ok-line-in-Ok : goal.returns-in_ok-line-in-Ok
returns-in_ok-line-in-Ok c =
    full c.args.known.now refl (λ d. c.in-Ok.ensures.unique (subst HasDuplicate (sym c.get.ensures) d))
    (c.ok.ensures.said ∙ ap saying.Text (c.in_ok-line-in-Ok.ensures
    ∙ ap filled_text (c.as_slice.ensures.value ∙ c.in-Ok.ensures.filled
    ∙ ap (λ (k : List Known). filled k c.args.dol.now) c.get.ensures))) c.ok.ensures.status

pub returns-in-Err-Duplicate : goal.returns-in-Err-Duplicate
returns-in-Err-Duplicate c = duplicate c.args.known.now refl (subst HasDuplicate c.get.ensures
    (subst (IsFillFault c.get.result.now) c.in-Err-Duplicate.field-0-is c.in-Err-Duplicate.ensures.fault))
    c.duplicate.ensures.said c.duplicate.ensures.status
