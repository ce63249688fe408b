use Rattle.std.proofs.Common.{◌≡◌, length}
use Rattle.exchange_text.specs.Names.{named_in}
use Rattle.exchange_text.proofs.name.named_in.Given as goal

abbrev pub invariant-loop-rest : goal.invariant-loop-rest
invariant-loop-rest l = named_in l.names l.word ≡ named_in l.rest l.word

abbrev pub decreases-loop-rest : goal.decreases-loop-rest
decreases-loop-rest l = length l.rest
