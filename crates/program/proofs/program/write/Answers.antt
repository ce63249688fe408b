use Rattle.std.proofs.Common.{refl}
use Rattle.program.specs.Answers.{cut}
use Rattle.program.proofs.program.write.Goals as goal

pub returns-in-Err : goal.returns-in-Err
returns-in-Err g c = cut c.in-Err.field-0.written c.in-Err.ensures.fewer c.in-Err.ensures.first c.in-Err.ensures.failed
    refl
