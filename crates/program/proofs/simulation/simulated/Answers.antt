use Rattle.std.proofs.lemmas.Result.{IfOk-weaker}
use Rattle.program.specs.SimulationTexts.{refused, too_large, too_long, unusable}
use Rattle.program.proofs.Simulations.{if-ok, told-both}
use Rattle.program.proofs.simulation.simulated.Goals as goal

pub returns-in-Ok : goal.returns-in-Ok
returns-in-Ok c = IfOk-weaker c.file_with_note.result _ _
    (λ made h. told-both c.args.session.now c.in-Ok.exchange made c.in-Ok.ensures.simulated h)
    c.file_with_note.ensures

pub returns-in-Err-Refused : goal.returns-in-Err-Refused
returns-in-Err-Refused c =
    let found = rw (c.in-Err-Refused.field-0-is, ← c.name.ensures) at c.in-Err-Refused.ensures.simulated in (
      unusable c.name.result.now found c.refused_as-answer.ensures.said
          c.refused_as-answer.ensures.status,
      if-ok c.session_note-explanation.result (λ note h. refused c.name.result.now found h)
          (rw c.get.ensures at c.session_note-explanation.ensures),
    )

pub returns-in-Err-TooLarge : goal.returns-in-Err-TooLarge
returns-in-Err-TooLarge c =
    let long = rw c.in-Err-TooLarge.field-0-is at c.in-Err-TooLarge.ensures.simulated in (
      too_large long.0 long.1 long.2 c.faulted-answer.ensures.said
          c.faulted-answer.ensures.status,
      if-ok c.large_note-explanation.result (λ note h. too_long long.0 long.1 long.2 h)
          c.large_note-explanation.ensures,
    )
