use Rattle.std.proofs.Common.{Err}
use Rattle.program_words.specs.declared.fault.Fault.TheVariants.{TooLarge}
use Rattle.program_words.specs.declared.request.Request.TheVariants.{Judge}
use Rattle.program.proofs.Explaining.{alone}
use Rattle.program.proofs.Judgments.{trace-unread}
use Rattle.program.proofs.judging.unread.Goals as goal

pub returns-in-TooLarge-clause-answer : goal.returns-in-TooLarge-clause-answer
returns-in-TooLarge-clause-answer c = λ words atr judging reads h.
    let had = rw c.in-TooLarge.is at h in
    alone words (Judge atr judging) reads c.alone.result (Err TooLarge) (λ need. had)
    (rw c.alone.ensures.answer
    (c.faulted-answer.ensures.said, c.faulted-answer.ensures.status))
    c.alone.ensures.explanation

pub returns-in_default-clause-answer : goal.returns-in_default-clause-answer
returns-in_default-clause-answer c = λ words atr judging reads h. trace-unread words atr judging reads c.args.fault h

pub returns-in-TooLarge-clause-unfailed : goal.returns-in-TooLarge-clause-unfailed
returns-in-TooLarge-clause-unfailed c = λ reads h. let had = rw c.in-TooLarge.is at h in had.count
