use Rattle.std.proofs.Common.{rules, subst}
use Rattle.octet_core.specs.Octets.{AreOctets}
use Rattle.apdu_core.specs.declared.command.Body.{Body}
use Rattle.apdu_core.specs.Command.{FitsFields, part_of}
use Rattle.apdu_core.proofs.Spelled.{command-spelled}
use Rattle.apdu_core.proofs.command.Command.new.Goals as goal

pub returns-then-fits-clause-spelled : goal.returns-then-fits-clause-spelled
returns-then-fits-clause-spelled c =
    command-spelled c.args.header c.args.body (search rules) (search rules)
    (subst FitsFields c.lent.ensures (c.if-fits.ensures.fits.0 (search rules)))
    (subst (λ (b : Body). AreOctets (part_of b)) c.lent.ensures c.fits.ensures.octets)
