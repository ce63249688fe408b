use Rattle.std.proofs.Common.{◌≡◌, ◌≤◌, ◌++◌, drop, false}
use Rattle.drawings.specs.Rows.{rows_from}
use Rattle.drawings.proofs.rows.push_lines.Given as goal

-- the rows so far and those of the lines that are left; a line is one block at most
abbrev pub invariant-loop-line : goal.invariant-loop-line
invariant-loop-line l =
    (l.rows.items ++ rows_from l.sent l.is_added (drop l.line-index l.lines) ≡ l.fn.rows.items
    ++ rows_from 0 false l.lines)
    × (l.sent ≤ l.line-index)
