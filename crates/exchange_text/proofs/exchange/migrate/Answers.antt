-- What may come in version 1 may come in version 2.
use Rattle.exchange_text.proofs.Migrating.{proper-two}
use Rattle.exchange_text.proofs.exchange.migrate.Goals as goal

pub invariant_of-result : goal.invariant_of-result
invariant_of-result c = proper-two c.exchange.inside.version 0 c.exchange.inside.lines c.exchange.invariant
