use Rattle.std.proofs.Common.{◌≡◌, ◌+◌, length}
use Rattle.dumps.specs.SourceStop.{source_stop, stop_from}
use Rattle.dumps.proofs.no_source.stop_of.Given as goal

-- what stops the text is what stops the rest of it
abbrev pub invariant-loop-rest : goal.invariant-loop-rest
invariant-loop-rest l = record {
  same : stop_from l.place l.now l.rest ≡ source_stop l.text;
  place : l.place + length l.rest ≡ length l.text;
}

abbrev pub decreases-loop-rest : goal.decreases-loop-rest
decreases-loop-rest l = length l.rest
