use Rattle.std.proofs.Common.{subst, arith, false}
use Rattle.octet_core.specs.Octets.{AreOctets}
use Rattle.apdu_core.specs.Command.{spelling}
use Rattle.line_core.specs.Exchange.{ending_of}
use Rattle.stack_laws.proofs.ends.acted_on_once.Goals as goal

pub returns : goal.returns
returns g c =
    let run = rw c.reset.ensures at c.exchange_command.ensures.run in
    let spelt = c.encode_command_into-count.ensures.command in (
      run.0,
      run.1,
      λ of_card most trips end card is served. c.once.ensures c.args.terminal.now.limits of_card c.args.params.ifsc
          (spelling c.args.command.now) c.args.most_blocks trips (ending_of c.exchange_command.result)
          c.exchange_command.new.terminal false most end card (omega arith) (subst AreOctets spelt.is spelt.octets)
          (rw is run.2) served,
    )
