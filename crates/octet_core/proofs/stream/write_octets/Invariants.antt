use Rattle.std.proofs.Common.{length, ◌-◌, ◌≡◌, ◌≤◌, take}
use Rattle.std.specs.Io.KnownBytes.{Appends}
use Rattle.octet_core.proofs.stream.write_octets.Given as goal

-- what was written so far, with no failure
abbrev pub invariant-loop-written : goal.invariant-loop-written
invariant-loop-written g l = record {
  inside : l.written ≤ length l.octets;
  so_far : Appends (g.W.Sink.contents l.fn.writer) (g.W.Sink.contents l.writer) (take l.written l.octets);
  count : g.W.Sink.failures l.writer ≡ g.W.Sink.failures l.fn.writer;
}

abbrev pub decreases-loop-written : goal.decreases-loop-written
decreases-loop-written g l = length l.octets - l.written
