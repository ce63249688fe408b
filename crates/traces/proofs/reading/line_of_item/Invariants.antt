use Rattle.std.proofs.Common.{◌≡◌, ◌+◌, drop, length}
use Rattle.std.specs.List.{slice_split}
use Rattle.trace_text.specs.Reading.{is_line_end}
use Rattle.traces.specs.Unfit.{item_line}
use Rattle.traces.proofs.reading.line_of_item.Given as goal

abbrev pub invariant-loop-line : goal.invariant-loop-line
invariant-loop-line l =
    (item_line l.number l.left (drop (length l.yielded) (slice_split is_line_end l.text))
    ≡ item_line 1 l.place (slice_split is_line_end l.text))
    × (l.number ≡ length l.yielded + 1)
