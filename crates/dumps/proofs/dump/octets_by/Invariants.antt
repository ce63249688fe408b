use Rattle.std.proofs.Common.{◌≡◌, drop, length}
use Rattle.std.specs.List.{slice_split}
use Rattle.dumps.specs.Dump.{is_line_end, nothing_taken, start_of, with_lines}
use Rattle.dumps.specs.Taking.{taken}
use Rattle.dumps.proofs.dump.octets_by.Given as goal

-- what the lines so far gave, with the lines that are left, is what all lines give
abbrev pub invariant-loop-line : goal.invariant-loop-line
invariant-loop-line l = with_lines (taken l.dump) (drop (length l.yielded) (slice_split is_line_end l.text)) ≡
    with_lines (nothing_taken l.fn.base (start_of l.fn.base l.text)) (slice_split is_line_end l.text)
