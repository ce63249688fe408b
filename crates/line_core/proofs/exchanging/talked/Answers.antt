use Rattle.std.proofs.Common.{take, Ok, Err}
use Rattle.std.proofs.lemmas.Result.{err_from_is_err_and}
use Rattle.line_core.specs.Line.{block, nothing}
use Rattle.line_core.proofs.Ready.{ready}
use Rattle.line_core.proofs.exchanging.talked.Goals as goal

pub returns-in_err-received_into-in-Ok-Octets-clause-talk : goal.returns-in_err-received_into-in-Ok-Octets-clause-talk
returns-in_err-received_into-in-Ok-Octets-clause-talk g c =
    let p = err_from_is_err_and c.from_residual.result c.from_residual.ensures.1 in
    rw (p.1, p.2) (
      block (take c.in-Ok-Octets.count c.transceive.new.room),
      rw c.in-Ok-Octets.field-0-is at c.in-Ok-Octets.ensures.said,
      ready _ _ _ (Err c.in_err-received_into-in-Ok-Octets.field-0.0)
          c.in_err-received_into-in-Ok-Octets.ensures.wrote.turn,
      c.received_into.ensures.wrote.state,
    )

pub returns-in_ok-received_into-in-Ok-Octets-clause-talk : goal.returns-in_ok-received_into-in-Ok-Octets-clause-talk
returns-in_ok-received_into-in-Ok-Octets-clause-talk g c = (
  block (take c.in-Ok-Octets.count c.transceive.new.room),
  rw c.in-Ok-Octets.field-0-is at c.in-Ok-Octets.ensures.said,
  ready _ _ _ (Ok c.in_ok-received_into-in-Ok-Octets.field-0) c.in_ok-received_into-in-Ok-Octets.ensures.wrote.turn,
  c.received_into.ensures.wrote.state,
)

pub returns-in_ok-quiet_into-in-Ok-Nothing-clause-talk : goal.returns-in_ok-quiet_into-in-Ok-Nothing-clause-talk
returns-in_ok-quiet_into-in-Ok-Nothing-clause-talk g c = (
  nothing,
  rw c.in-Ok-Nothing.field-0-is at c.in-Ok-Nothing.ensures.said,
  ready _ _ _ (Ok c.in_ok-quiet_into-in-Ok-Nothing.field-0) c.in_ok-quiet_into-in-Ok-Nothing.ensures.wrote.turn,
  c.quiet_into.ensures.wrote.state,
)
