use Rattle.std.proofs.Common.{◌++◌}
use Rattle.program.specs.Explained.{said_of}
use Rattle.program.proofs.program.one_text.Goals as goal

pub returns-in-Ok-clause-written : goal.returns-in-Ok-clause-written
returns-in-Ok-clause-written g c = record {
  text = c.in-Ok.made.text ++ said_of c.in-Ok.made.explanation;
  right = c.in-Ok.made.status;
  is_right = c.in-Ok.ensures.answer;
  is_written = c.write_made.ensures;
}
