use Rattle.std.proofs.Common.{◌≡◌, length}
use Rattle.shortfall.specs.Chain.{chain_least}
use Rattle.shortfall.proofs.chain.chain_least.Given as goal

-- a block begins here, and what it needs is what all octets need
abbrev pub invariant-loop-after : goal.invariant-loop-after
invariant-loop-after l = chain_least l.rest ≡ chain_least l.octets

abbrev pub decreases-loop-after : goal.decreases-loop-after
decreases-loop-after l = length l.rest
