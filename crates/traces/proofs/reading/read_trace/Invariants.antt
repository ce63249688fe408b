use Rattle.std.proofs.Common.{length}
use Rattle.std.specs.List.{slice_split}
use Rattle.trace_text.specs.Reading.{is_line_end}
use Rattle.traces.specs.Reading.{nothing_taken, with_lines}
use Rattle.traces.proofs.Texts.{IsTaken}
use Rattle.traces.proofs.reading.read_trace.Given as goal

abbrev pub invariant-loop-line : goal.invariant-loop-line
invariant-loop-line l = IsTaken l.taken (slice_split is_line_end l.text) (length l.yielded)
    (with_lines nothing_taken (slice_split is_line_end l.text))
