use Rattle.program_octets.specs.Verdicts.{accepted, accepted_in, refused_in}
use Rattle.program_octets.proofs.Telling.{is-refused, of-stop}
use Rattle.program_octets.proofs.codec.check_with_verdict.Goals as goal

pub returns-in_ok-answer-in-Ok : goal.returns-in_ok-answer-in-Ok
returns-in_ok-answer-in-Ok g c =
    let found = c.in-Ok.ensures.found in
    record {
      answer = accepted found.0 c.in-Ok.taken found.1 c.in_ok-answer-in-Ok.ensures.said
          c.in_ok-answer-in-Ok.ensures.status;
      verdict = found;
    }

pub returns-in_ok-answer-in-Err-Stop : goal.returns-in_ok-answer-in-Err-Stop
returns-in_ok-answer-in-Err-Stop g c =
    let codec = g.C.Codec.codec c.args.expected in
    record {
      answer = is-refused codec (λ v n. accepted_in c.args.layout c.args.expected.kind n)
          (refused_in c.args.layout c.args.expected.kind) c.args.octets.now _ c.in-Err-Stop.field-0
          c.in-Err-Stop.stop _ _ (g.met.C.Codec.named c.args.expected) c.in-Err-Stop.field-0-is
          c.in-Err-Stop.ensures.refused c.in_ok-answer-in-Err-Stop.ensures.said
          c.in_ok-answer-in-Err-Stop.ensures.status;
      verdict = of-stop codec c.args.octets.now c.in-Err-Stop.field-0 c.in-Err-Stop.stop c.in-Err-Stop.field-0-is
          c.in-Err-Stop.ensures.refused;
    }
