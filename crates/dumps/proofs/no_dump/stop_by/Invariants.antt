use Rattle.std.proofs.Common.{◌≡◌, ◌+◌, drop, length}
use Rattle.std.specs.List.{slice_split}
use Rattle.dumps.specs.Dump.{is_line_end}
use Rattle.dumps.specs.DumpStop.{stop_by, stop_from}
use Rattle.dumps.specs.Taking.{taken}
use Rattle.dumps.proofs.Stops.{room}
use Rattle.dumps.proofs.no_dump.stop_by.Given as goal

-- what stops the lines that are left is what stops the text, and they end where it does
abbrev pub invariant-loop-line : goal.invariant-loop-line
invariant-loop-line l = record {
  same : stop_from (length l.text) l.start (taken l.dump)
      (drop (length l.yielded) (slice_split is_line_end l.text)) ≡ stop_by l.fn.base l.text;
  room : l.start + room (drop (length l.yielded) (slice_split is_line_end l.text)) ≡ length l.text + 1;
}
