use Rattle.atr_core.proofs.Unique.{one-accepted}
use Rattle.exchange_core.proofs.Found.{refused-found, longer-found}
use Rattle.program.proofs.judging.offer_of.Goals as goal
use Rattle.program.proofs.judging.offer_of.Goals.{in_default-via-in-Ok+else-taken-octets, in_default-via-in_default}

pub returns-in_default-clause-refused : goal.returns-in_default-clause-refused
returns-in_default-clause-refused c =
    elim c.in_default.branch [
      | in_default-via-in-Ok+else-taken-octets w ↦
          longer-found _ _ _ one-accepted w.in-Ok.ensures.found w.if-taken-octets.false
      | in_default-via-in_default w ↦ refused-found c.args.octets.now w.in_default.field-0 w.in_default.ensures.refused
    ]
