use Rattle.std.proofs.Common.{◌∙◌, ℕ, ap, subst}
use Rattle.std.proofs.lemmas.Result.{IfOk-weaker}
use Rattle.octet_core.specs.Grammar.{self_ended, Accepts}
use Rattle.atr_core.specs.Atr.{IsAtr}
use Rattle.explainer.specs.Notes.{longer, longer_note, no_atr, whole}
use Rattle.explainer.proofs.session.session_note.Goals as goal

pub returns-then-taken-atr : goal.returns-then-taken-atr
returns-then-taken-atr c = IfOk-weaker c.lack_of.result _ _
    (λ text h. whole c.in-Ok.value
    (subst (λ (n : ℕ). Accepts self_ended IsAtr c.args.atr.now c.in-Ok.value n) c.if-taken-atr.true
    c.in-Ok.ensures.found) h) c.lack_of.ensures

pub returns-else-taken-atr : goal.returns-else-taken-atr
returns-else-taken-atr c = IfOk-weaker c.longer.result _ _
    (λ text h. longer c.in-Ok.value c.in-Ok.taken c.in-Ok.ensures.found c.if-taken-atr.false
    (h ∙ ap (λ (n : ℕ). longer_note c.in-Ok.taken n) c.saturating_sub.ensures)) c.longer.ensures

pub returns-in-Err : goal.returns-in-Err
returns-in-Err c = IfOk-weaker c.stop_note.result _ _ (λ text h. no_atr c.in-Err.stop c.in-Err.ensures.refused h)
    c.stop_note.ensures
