use Rattle.std.proofs.Common.{◌≡◌, ◌∙◌, ap, sym}
use Rattle.std.proofs.lemmas.Result.{IfOk-weaker}
use Rattle.command_line.specs.Form.{texts}
use Rattle.explainer.specs.Places.{subcommand, word_at}
use Rattle.explainer.specs.Words.{taken_note}
use Rattle.explainer.proofs.Wording.{none-named}
use Rattle.explainer.proofs.words.taken_note.Goals as goal

pub returns-in_default : goal.returns-in_default
returns-in_default c =
    let words = texts c.args.words.now in
    let name : c.word_at.result.now ≡ subcommand words =
    c.word_at.ensures ∙ ap (word_at words) c.subcommand_place.ensures.place in
    IfOk-weaker c.from_str.result _ _ (λ note h. h
    ∙ sym (none-named words c.word_at.result.now c.in_default.not-check c.in_default.not-show c.in_default.not-build
    c.in_default.not-replay c.in_default.not-record c.in_default.not-judge c.in_default.not-simulate)
    ∙ ap (taken_note words) name) c.from_str.ensures.ok
