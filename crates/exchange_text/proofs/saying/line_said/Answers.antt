use Rattle.std.proofs.Common.{subst, sym, ap, ◌∙◌, Some}
use Rattle.exchange_text.specs.Reading.{LineUnlessMemory}
use Rattle.exchange_text.proofs.Cutting.{note-line}
use Rattle.exchange_text.proofs.saying.line_said.Goals as goal

pub returns-in-Some : goal.returns-in-Some
returns-in-Some c =
    let words = rw c.in-Some.is at c.first_word.ensures.words in
    let after = rw c.in-Some.is at c.first_word.ensures.after in
    let named = sym c.from_word.ensures ∙ c.in_ok-ok_or.ensures.ok_part ∙ ap Some c.in-Note.is in
    subst
    (λ expected. LineUnlessMemory c.note.result expected)
    (note-line c.args.version c.args.line.now c.first_word.result.0.now c.in-Some.text.now words after named)
    c.note.ensures
