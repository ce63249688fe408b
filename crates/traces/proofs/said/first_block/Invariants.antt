use Rattle.std.proofs.Common.{◌≡◌, length}
use Rattle.traces.specs.Said.{first_block}
use Rattle.traces.proofs.said.first_block.Given as goal

abbrev pub invariant-loop-rest : goal.invariant-loop-rest
invariant-loop-rest l = first_block l.from l.last l.rest ≡ first_block l.from l.last l.items

abbrev pub decreases-loop-rest : goal.decreases-loop-rest
decreases-loop-rest l = length l.rest
