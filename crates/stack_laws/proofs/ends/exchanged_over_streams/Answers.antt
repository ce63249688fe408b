use Rattle.std.proofs.Common.{[], refl}
use Rattle.stack_laws.proofs.ends.exchanged_over_streams.Goals as goal

pub returns : goal.returns
returns g c =
    let run = c.exchange_command.ensures.run in (run.0, run.1 _ [] refl, run.2)
