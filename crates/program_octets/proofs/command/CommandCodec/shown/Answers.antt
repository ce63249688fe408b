use Rattle.std.proofs.Common.{length}
use Rattle.program_octets.specs.CommandTexts.{command_codec}
use Rattle.program_octets.proofs.Telling.{is-shown}
use Rattle.program_octets.proofs.command.CommandCodec.shown.Goals as goal

pub returns-clause-found : goal.returns-clause-found
returns-clause-found c =
    is-shown c.args.noted c.args.layout c.args.expected.kind command_codec c.args.octets.now c.in_ok-command.command
    (length c.args.octets.now)
    c.in_ok-of.field-0.taken _ c.in_ok-command.ensures.found c.in_ok-of.ensures.taken c.in_ok-of.ensures.text
