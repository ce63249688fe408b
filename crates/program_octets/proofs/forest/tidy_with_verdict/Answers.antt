use Rattle.std.proofs.Common.{◌∙◌, ap, length, refl}
use Rattle.program_octets.specs.Verdicts.{accepted}
use Rattle.program_octets.specs.ForestTexts.{forest_codec, tidied_text}
use Rattle.program_octets.specs.Texts.{stopped}
use Rattle.program_octets.specs.declared.said.Said.TheVariants as saying
use Rattle.program_octets.proofs.Telling.{is-refused, of-stop}
use Rattle.program_octets.proofs.forest.tidy_with_verdict.Goals as goal

pub returns-in_ok-tidied-in-Ok : goal.returns-in_ok-tidied-in-Ok
returns-in_ok-tidied-in-Ok c = record {
  answer = accepted c.in-Ok.forest (length c.args.octets.now) c.in-Ok.ensures.found
      (c.ok.ensures.said ∙ ap saying.Text c.in_ok-tidied-in-Ok.ensures) c.ok.ensures.status;
  verdict = (c.in-Ok.forest, c.in-Ok.ensures.found);
}

pub returns-in-Err-Stop : goal.returns-in-Err-Stop
returns-in-Err-Stop c = record {
  answer = is-refused forest_codec (λ v n. saying.Text (tidied_text v))
      (λ name stop. saying.Refusal (stopped name stop)) c.args.octets.now forest_codec.name
      c.in-Err-Stop.field-0
      c.in-Err-Stop.stop _ _ refl c.in-Err-Stop.field-0-is c.in-Err-Stop.ensures.refused
      c.refused.ensures.said c.refused.ensures.status;
  verdict = of-stop forest_codec c.args.octets.now c.in-Err-Stop.field-0 c.in-Err-Stop.stop c.in-Err-Stop.field-0-is
      c.in-Err-Stop.ensures.refused;
}
