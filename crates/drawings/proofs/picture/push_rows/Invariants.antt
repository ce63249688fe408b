use Rattle.std.proofs.Common.{◌≡◌, ◌++◌, drop}
use Rattle.drawings.specs.Picture.{first_row, rows_text}
use Rattle.drawings.proofs.picture.push_rows.Given as goal

abbrev pub invariant-loop-row : goal.invariant-loop-row
invariant-loop-row l =
    l.text.items ++ rows_text l.top (drop l.row-index l.rows) ≡ l.fn.text.items ++ rows_text first_row l.rows
