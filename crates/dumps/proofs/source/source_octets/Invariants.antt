use Rattle.std.proofs.Common.{◌≡◌, length}
use Rattle.dumps.specs.Source.{octets_from, source_octets}
use Rattle.dumps.proofs.Sources.{after}
use Rattle.dumps.proofs.source.source_octets.Given as goal

-- the octets so far, and those that the rest gives, are those of the text
abbrev pub invariant-loop-rest : goal.invariant-loop-rest
invariant-loop-rest l = after l.octets.items (octets_from l.now l.rest) ≡ source_octets l.text

abbrev pub decreases-loop-rest : goal.decreases-loop-rest
decreases-loop-rest l = length l.rest
