use Rattle.std.proofs.Common.{◌∙◌, ap}
use Rattle.program_octets.specs.Sayings.{told_in}
use Rattle.program_octets.specs.Verdicts.{accepted, refused_in, shown_in}
use Rattle.program_octets.proofs.Telling.{is-refused, of-stop}
use Rattle.program_octets.proofs.codec.show_with_verdict.Goals as goal

pub returns-in-Ok : goal.returns-in-Ok
returns-in-Ok g c =
    let found = c.in-Ok.ensures.found in
    record {
      answer = accepted found.0 c.in-Ok.field-0.taken found.1
          (c.laid.ensures.said ∙ ap (told_in c.args.layout) found.2) c.laid.ensures.status;
      verdict = (found.0, found.1);
      ended = c.laid.ensures.status;
    }

pub returns-in_ok-answer-in-Err-Stop : goal.returns-in_ok-answer-in-Err-Stop
returns-in_ok-answer-in-Err-Stop g c =
    let codec = g.C.Codec.codec c.args.expected in
    record {
      answer = is-refused codec (λ v n. told_in c.args.layout
          (shown_in c.args.noted c.args.layout c.args.expected.kind codec v n))
          (refused_in c.args.layout c.args.expected.kind) c.args.octets.now _ c.in-Err-Stop.field-0
          c.in-Err-Stop.stop _ _ (g.met.C.Codec.named c.args.expected) c.in-Err-Stop.field-0-is
          c.in-Err-Stop.ensures.refused c.in_ok-answer-in-Err-Stop.ensures.said
          c.in_ok-answer-in-Err-Stop.ensures.status;
      verdict = of-stop codec c.args.octets.now c.in-Err-Stop.field-0 c.in-Err-Stop.stop c.in-Err-Stop.field-0-is
          c.in-Err-Stop.ensures.refused;
      ended = c.in_ok-answer-in-Err-Stop.ensures.status;
    }
