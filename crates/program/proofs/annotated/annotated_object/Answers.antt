use Rattle.std.proofs.Common.{◌∙◌}
use Rattle.program.proofs.Annotating.{accepted-object, refused-object}
use Rattle.program.proofs.annotated.annotated_object.Goals as goal

pub returns-in_ok-text-in-Refused : goal.returns-in_ok-text-in-Refused
returns-in_ok-text-in-Refused c = λ expected octets shown line.
    refused-object expected octets c.args.object.said c.in_ok-shown-in-Refused.shown c.args.line.now c.as_str.result.now
    c.in_ok-text-in-Refused.text c.args.words.now c.args.object.status c.in-Refused.is shown (line c.in-Refused.is)
    c.in_ok-shown-in-Refused.ensures (c.as_str.ensures.value ∙ c.in_ok-items-in-Refused.ensures)
    c.in_ok-text-in-Refused.ensures

pub returns-in_default : goal.returns-in_default
returns-in_default c = λ expected octets shown line.
    accepted-object expected octets c.args.object.said c.args.object.status c.in_default.not-Refused shown
