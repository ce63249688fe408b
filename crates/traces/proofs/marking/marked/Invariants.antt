use Rattle.std.proofs.Common.{◌≡◌, ◌+◌, ◌++◌, length}
use Rattle.std.specs.Vec.Iter.{into_iter_items, into_iter_len}
use Rattle.traces.specs.Marked.{marked}
use Rattle.traces.proofs.marking.marked.Given as goal

abbrev pub invariant-loop-line : goal.invariant-loop-line
invariant-loop-line l =
    (l.marked.items ++ marked l.place l.rest (into_iter_items l.line-iterator) ≡ marked 0 l.fn.unseen l.fn.lines.items)
    × (l.place + length (into_iter_items l.line-iterator) ≡ l.count)
    × (into_iter_len l.line-iterator ≡ length (into_iter_items l.line-iterator))
