use Rattle.program.specs.RecordTexts.{of_text, refused, unfit, unfit_line, unusable, whole}
use Rattle.program.proofs.Simulations.{if-ok}
use Rattle.program.proofs.recording.recorded_items.Goals as goal

pub returns-in_ok-answer-in-Ok : goal.returns-in_ok-answer-in-Ok
returns-in_ok-answer-in-Ok c =
    let h = c.in-Ok.ensures in (
      whole h.0 h.1 h.2 (rw h.3 at c.in_ok-answer-in-Ok.ensures),
      if-ok c.size_note-explanation.result (λ note of. of_text h.0 h.1 h.2 (rw h.3 at of))
          c.size_note-explanation.ensures,
    )

pub returns-in-Err-Refused : goal.returns-in-Err-Refused
returns-in-Err-Refused c =
    let found = rw (c.in-Err-Refused.field-0-is, ← c.name.ensures) at c.in-Err-Refused.ensures in (
      refused c.name.result.now found c.refused_as-answer.ensures.said
          c.refused_as-answer.ensures.status,
      if-ok c.session_note-explanation.result (λ note of. unusable c.name.result.now found of)
          c.session_note-explanation.ensures,
    )

pub returns-in-Err-Unfit : goal.returns-in-Err-Unfit
returns-in-Err-Unfit c =
    let h = rw c.in-Err-Unfit.field-0-is at c.in-Err-Unfit.ensures in
    let unfits = c.in-Err-Unfit in (
      unfit h.0 unfits.place unfits.why h.1 h.2
          (rw (c.name-in-Err-Unfit.ensures, c.line_of_item-line.ensures) at c.refused_line-answer.ensures.said)
          c.refused_line-answer.ensures.status,
      if-ok c.unfit_note-explanation.result (λ note of. unfit_line unfits.place unfits.why h.2
          (rw c.line_of_item-line.ensures at of)) c.unfit_note-explanation.ensures,
    )
