use Rattle.std.proofs.Common.{◌≡◌, drop, length}
use Rattle.std.specs.List.{slice_split}
use Rattle.program_words.specs.PairLines.{is_line_end}
use Rattle.explainer.specs.Pairs.{lines_stop}
use Rattle.explainer.proofs.pairs.lines_stop.Given as goal

-- the lines that are left have the first place that is wrong
abbrev pub invariant-loop-line : goal.invariant-loop-line
invariant-loop-line l =
    lines_stop l.start (drop (length l.yielded) (slice_split is_line_end l.text))
    ≡ lines_stop 0 (slice_split is_line_end l.text)
