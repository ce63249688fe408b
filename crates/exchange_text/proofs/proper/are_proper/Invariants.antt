use Rattle.std.proofs.Common.{◌≡◌, length}
use Rattle.exchange_text.specs.Exchange.{are_proper}
use Rattle.exchange_text.proofs.proper.are_proper.Given as goal

abbrev pub invariant-loop-rest : goal.invariant-loop-rest
invariant-loop-rest l = are_proper l.version 0 l.lines ≡ are_proper l.version l.least l.rest

abbrev pub decreases-loop-rest : goal.decreases-loop-rest
decreases-loop-rest l = length l.rest
