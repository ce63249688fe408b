use Rattle.std.proofs.Common.{append-nil}
use Rattle.std.proofs.lemmas.Result.{err_from_is_err_and}
use Rattle.program.specs.Explained.{said_of}
use Rattle.program.specs.InJson.{made}
use Rattle.program.proofs.InJson.{not-made}
use Rattle.program.proofs.program.answer_in_json.Goals as goal

pub returns-clause-answer : goal.returns-clause-answer
returns-clause-answer g c =
    let of = c.whole_reply-made.result in
    rw (c.new.ensures.bytes, append-nil c.in_ok-in_json.field-0)
    (made c.args.read of.answer.said (said_of of.explanation) c.requires c.whole_reply-made.ensures.answer
    (rw (c.of-about.ensures.name, c.of-about.ensures.noted) at c.in_ok-in_json.ensures))

pub returns-in_err-in_json-clause-answer : goal.returns-in_err-in_json-clause-answer
returns-in_err-in_json-clause-answer g c =
    let of = c.whole_reply-made.result in
    let fault = err_from_is_err_and c.from_residual.result c.from_residual.ensures.1 in
    not-made c.from_residual.result fault.0 fault.1 fault.2 (record {
      said = of.answer.said;
      note = said_of of.explanation;
      ended = of.answer.status;
      is_said = c.whole_reply-made.ensures.answer;
    })
