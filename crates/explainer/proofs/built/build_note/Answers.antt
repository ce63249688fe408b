use Rattle.std.proofs.Common.{◌≡◌, ◌∙◌, ap, codes, sym}
use Rattle.std.proofs.lemmas.Result.{IfOk-weaker}
use Rattle.command_line.specs.Form.{texts}
use Rattle.explainer.specs.Notes.{word_note}
use Rattle.explainer.specs.Places.{nth_word, word_at}
use Rattle.explainer.proofs.Wording.{none-built}
use Rattle.explainer.proofs.built.build_note.Goals as goal

pub returns-in_default : goal.returns-in_default
returns-in_default c =
    let words = texts c.args.words.now in
    let what : c.word_at.result.now ≡ nth_word words 0 =
    c.word_at.ensures ∙ ap (word_at words) c.place_of-what.ensures in
    IfOk-weaker c.said.result _ _ (λ note h. h
    ∙ ap (λ number. word_note number (codes "WHAT must be chain, tidy or fill")) c.place_of-what.ensures
    ∙ sym (none-built words c.word_at.result.now what c.in_default.not-tidy c.in_default.not-chain
    c.in_default.not-fill)) c.said.ensures
