use Rattle.program.specs.JudgeTexts.{refused, unusable}
use Rattle.program.proofs.Simulations.{if-ok}
use Rattle.program.proofs.judging.unusable_noted.Goals as goal

pub returns : goal.returns
returns c = λ found judging text.
    let name = c.name.result.now in
    let at = rw (← c.name.ensures) at found in (
      refused name at c.refused_as-answer.ensures.said c.refused_as-answer.ensures.status,
      if-ok c.session_note-explanation.result (λ note h. unusable name at h) c.session_note-explanation.ensures,
    )
