use Rattle.std.proofs.Common.{◌++◌, ◌∙◌, List, ℕ, ap}
use Rattle.std.proofs.lemmas.Result.{IfOk-weaker}
use Rattle.program.specs.FileNotes.{no_session, otherwise}
use Rattle.program.specs.Waits.{waiting_said}
use Rattle.program.proofs.file_notes.why.Goals as goal

pub returns-then-line-eq-ATR_LINE : goal.returns-then-line-eq-ATR_LINE
returns-then-line-eq-ATR_LINE c = IfOk-weaker c.atr_why.result _ _
    (λ what h. no_session h.0 c.if-line-eq-ATR_LINE.true h.1 h.2) c.atr_why.ensures

pub returns : goal.returns
returns c =
    let waiting = c.in_ok-waiting_at.field-0 in
    otherwise waiting c.if-line-eq-ATR_LINE.false c.in_ok-waiting_at.ensures
    (c.in_ok-push_waiting.ensures ∙ ap (λ (l : List ℕ). l ++ waiting_said c.args.gives.now waiting)
    (c.in_ok-what.ensures.ok ∙ rw (c.get.ensures, c.lines.ensures.lines) at c.reason.ensures))
