use Rattle.std.proofs.Common.{◌≡◌, drop, length}
use Rattle.std.specs.List.{slice_split}
use Rattle.program_words.specs.PairLines.{is_line_end, pairs_in, pairs_of_line}
use Rattle.program_words.proofs.Groups.{after}
use Rattle.program_words.proofs.pair_lines.read_pair_lines.Given as goal

-- the pairs read so far and those of the lines that are left are those of the text
abbrev pub invariant-loop-line : goal.invariant-loop-line
invariant-loop-line l =
    after pairs_of_line l.pairs.items (drop (length l.yielded) (slice_split is_line_end l.text)) ≡ pairs_in l.text
