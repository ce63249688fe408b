use Rattle.std.proofs.Common.{◌∙◌, Ok, ap, codes}
use Rattle.std.proofs.lemmas.Result.{IfOk-weaker}
use Rattle.trace_judge.specs.Judging.{start, JudgesLines}
use Rattle.trace_judge.proofs.Lines.{concluded}
use Rattle.program.specs.Laid.{laid}
use Rattle.program.specs.JudgeTexts.{judged, scope_of, silent}
use Rattle.program.specs.TraceLines.{lines_of}
use Rattle.program.proofs.Judgments.{faulty-noted}
use Rattle.program.proofs.judging.lines_told.Goals as goal

pub returns-in_ok-answer-in-None : goal.returns-in_ok-answer-in-None
returns-in_ok-answer-in-None c = λ offered text h.
    let all : JudgesLines (start offered (scope_of c.args.judging)) (lines_of text) (Ok c.args.lines.standing) =
    rw c.in-None.is at h in
    let told = concluded offered (scope_of c.args.judging) text c.args.lines.standing
    c.in_ok-judgment-in-None.judgment all c.in_ok-judgment-in-None.ensures in
    let said = c.in_ok-answer-in-None.ensures.said
    ∙ ap (laid c.args.judging.layout (codes "judge")) c.in_ok-account-in-None.ensures.text in
    rw c.alone.ensures.answer (
      judged c.in_ok-judgment-in-None.judgment told said
          (c.in_ok-answer-in-None.ensures.status ∙ c.in_ok-account-in-None.ensures.status),
      IfOk-weaker c.alone.result.explanation _ _ (λ note none. silent c.in_ok-judgment-in-None.judgment told none)
          c.alone.ensures.explanation,
    )

pub returns-in-Some : goal.returns-in-Some
returns-in-Some c = λ offered text h. faulty-noted c.args.atr.now offered c.args.judging text c.args.lines.line.items
    c.in-Some.fault c.fault_with_note.result (rw c.in-Some.is at h) c.fault_with_note.ensures.other
    (rw c.as_slice.ensures.value at c.fault_with_note.ensures.made)
