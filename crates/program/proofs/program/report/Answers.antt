use Rattle.std.proofs.Common.{◌∙◌, ℕ, List, subst}
use Rattle.program.specs.Calls.{calls_of}
use Rattle.program.specs.Answers.{IsWritten}
use Rattle.program_octets.specs.declared.status.Status.TheVariants as ended
use Rattle.program.proofs.program.report.Goals as goal

pub returns : goal.returns
returns g c = subst (λ (t : List ℕ). IsWritten t ended.Fault
    (calls_of g.W.Sink.contents g.W.Sink.failures c.args.writer.now c.write.new.writer)
    c.write.result) (c.as_bytes.ensures.value ∙ c.text.ensures) c.write.ensures
