use Rattle.std.proofs.Common.{◌≡◌, ◌∙◌, ap, rules, string_bytes}
use Rattle.std.proofs.lemmas.Result.{IfOk-weaker}
use Rattle.program.specs.FileNotes.{line_text}
use Rattle.program.proofs.Explaining.{on-difference}
use Rattle.program.proofs.ExchangeNotes.{differs-at}
use Rattle.program.proofs.file_notes.difference_note.Goals as goal

pub returns-in_ok-push_place-in-Err-Differs : goal.returns-in_ok-push_place-in-Err-Differs
returns-in_ok-push_place-in-Err-Differs c =
    let same : c.get-in-Err-Differs.result.now ≡ c.args.exchange.now.lines = search rules in
    on-difference c.shown_at.result c.args.text.now c.args.exchange.now c.args.side
    c.in-Err-Differs.line c.in-Err-Differs.gives (string_bytes c.in_ok-what-in-Err-Differs.what)
    (differs-at c.args.outcome.now c.args.exchange.now c.args.side c.in-Err-Differs.field-0 c.in-Err-Differs.line
    c.in-Err-Differs.gives
    c.in-Err-Differs.is (rw c.in-Err-Differs.is at c.in-Err-Differs.field-0-is) c.requires)
    (rw c.get.ensures at c.in_ok-what-in-Err-Differs.ensures)
    (IfOk-weaker c.shown_at.result _ _ (λ note h. h ∙ ap (line_text c.args.text.now c.in-Err-Differs.line)
    (c.as_str.ensures.value ∙ rw same at c.in_ok-push_place-in-Err-Differs.ensures)) c.shown_at.ensures)
