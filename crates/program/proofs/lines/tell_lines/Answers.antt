use Rattle.std.proofs.Common.{rules}
use Rattle.program.proofs.Conversing.{moved-between}
use Rattle.program.proofs.LinesWritten.{all-written}
use Rattle.program.proofs.lines.tell_lines.Goals as goal

pub returns : goal.returns
returns g c =
    let lines = c.answer_lines.ensures in
    all-written c.args.line_task _ _ lines.events _ lines.are_answers
    (moved-between g.R.Source.remaining g.R.Source.failures g.W.Sink.contents g.W.Sink.failures
    (record {
      reader = record { ref_ptr = c.args.reader.ref_ptr; ghost_name = _; now = _ };
      writer = record { ref_ptr = c.args.writer.ref_ptr; ghost_name = _; now = _ };
    })
    (record {
      reader = record { ref_ptr = c.args.reader.ref_ptr; ghost_name = _; now = _ };
      writer = record { ref_ptr = c.args.writer.ref_ptr; ghost_name = _; now = _ };
    }) _ _ lines.events lines.happened (search rules) (search rules))
