use Rattle.std.proofs.Common.{◌≡◌, ◌≤◌, ◌-◌, length, take}
use Rattle.std.specs.Io.KnownBytes.{Consumes}
use Rattle.line_core.specs.Streams.{IsFramed}
use Rattle.line_core.proofs.streaming.read_block.Given as goal

abbrev pub invariant-loop-count : goal.invariant-loop-count
invariant-loop-count g l = record {
  count : l.count ≤ 259;
  room : 259 ≤ length l.room;
  came : Consumes (g.R.Source.remaining l.fn.source) (g.R.Source.remaining l.source) (take l.count l.room);
  framed : IsFramed (take l.count l.room);
  counted : g.R.Source.failures l.source ≡ g.R.Source.failures l.fn.source;
}

abbrev pub decreases-loop-count : goal.decreases-loop-count
decreases-loop-count g l = 259 - l.count
