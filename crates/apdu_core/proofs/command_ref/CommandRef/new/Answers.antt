use Rattle.std.proofs.Common.{rules}
use Rattle.apdu_core.specs.Borrowed.{body_of}
use Rattle.apdu_core.proofs.Spelled.{command-spelled}
use Rattle.apdu_core.proofs.command_ref.CommandRef.new.Goals as goal

pub returns-then-fits-clause-spelled : goal.returns-then-fits-clause-spelled
returns-then-fits-clause-spelled c =
    command-spelled c.args.header (body_of c.args.body) (search rules) (search rules)
    (c.if-fits.ensures.fits.0 (search rules)) c.fits.ensures.octets
