use Rattle.program.specs.Explained.{said_of}
use Rattle.program.proofs.ByLine.{stopped-first, written-all}
use Rattle.program.proofs.program.write_made.Goals as goal

pub returns-in-Ok : goal.returns-in-Ok
returns-in-Ok g c = written-all c.args.made.now.text (said_of c.args.made.now.explanation) c.args.made.now.status
    _ _ _ _ _ _ _ (rw c.get.ensures at c.in-Ok.ensures.all) c.in-Ok.ensures.none_failed
    (rw c.said.ensures at c.write.ensures)

pub returns-in-Err : goal.returns-in-Err
returns-in-Err g c = stopped-first c.args.made.now.text (said_of c.args.made.now.explanation)
    c.args.made.now.status _ _ _ _ c.in-Err._fault.written (rw c.get.ensures at c.in-Err.ensures.fewer)
    (rw c.get.ensures at c.in-Err.ensures.first) c.in-Err.ensures.failed
