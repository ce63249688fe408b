use Rattle.std.proofs.Common.{◌∙◌, ap, sym}
use Rattle.std.proofs.lemmas.Result.{IfOk-weaker}
use Rattle.explainer.specs.Notes.{has_all, lack_note, lacks}
use Rattle.explainer.proofs.session.lack_of.Goals as goal

pub returns-in-Ok : goal.returns-in-Ok
returns-in-Ok c = has_all c.in-Ok.field-0 (sym c.t1_params.ensures ∙ c.in-Ok.is) c.new.ensures.bytes

pub returns-in-Err : goal.returns-in-Err
returns-in-Err c = IfOk-weaker c.lack.result _ _
    (λ text h. lacks c.in-Err.fault (sym c.t1_params.ensures ∙ c.in-Err.is)
    (h ∙ ap lack_note c.sentence.ensures)) c.lack.ensures
