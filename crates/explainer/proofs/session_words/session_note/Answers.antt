use Rattle.std.proofs.Common.{◌∙◌, ap, sym}
use Rattle.std.proofs.lemmas.Result.{IfOk-weaker}
use Rattle.command_line.specs.Form.{texts}
use Rattle.explainer.specs.Words.{listed_note}
use Rattle.explainer.proofs.Wording.{first-of-two, second-of-three, third-of-three}
use Rattle.explainer.proofs.session_words.session_note.Goals as goal

pub returns-then-has_both : goal.returns-then-has_both
returns-then-has_both c = IfOk-weaker c.said.result _ _ (λ note h. h
    ∙ sym (first-of-two _ _ _ (sym c.has_both.ensures ∙ c.if-has_both.true)))
    (rw c.place_of.ensures at c.said.ensures)

pub returns-then-is_wrong_form : goal.returns-then-is_wrong_form
returns-then-is_wrong_form c = IfOk-weaker c.option_note.result _ _ (λ note h. h
    ∙ sym (second-of-three _ _ _ _ _ (sym c.has_both.ensures ∙ c.if-has_both.false)
    (sym c.is_wrong_form.ensures ∙ c.if-is_wrong_form.true))) c.option_note.ensures

pub returns : goal.returns
returns c = IfOk-weaker c.listed_note.result _ _ (λ note h. h
    ∙ ap (listed_note (texts c.args.words.now)) c.in_ok-wrong.ensures
    ∙ sym (third-of-three _ _ _ _ _ (sym c.has_both.ensures ∙ c.if-has_both.false)
    (sym c.is_wrong_form.ensures ∙ c.if-is_wrong_form.false))) c.listed_note.ensures
