use Rattle.program.proofs.Annotating.{accepted-noted, refused-noted}
use Rattle.program.proofs.annotated.annotated.Goals as goal

pub returns-in_ok-text-in-Refused : goal.returns-in_ok-text-in-Refused
returns-in_ok-text-in-Refused c = λ expected octets shown.
    refused-noted expected octets c.args.shown.said c.in_ok-line-in-Refused.line c.in_ok-text-in-Refused.text
    c.args.words.now
    c.args.shown.status c.in-Refused.is shown c.in_ok-line-in-Refused.ensures
    (rw c.get.ensures at c.in_ok-text-in-Refused.ensures)

pub returns-in_default : goal.returns-in_default
returns-in_default c = λ expected octets shown.
    accepted-noted expected octets c.args.shown.said c.args.shown.status c.in_default.not-Refused shown
