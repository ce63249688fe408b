use Rattle.std.proofs.Common.{◌≡◌, drop}
use Rattle.program_octets.specs.ListTexts.{entry_rows}
use Rattle.program_octets.specs.Rows.{with_rows}
use Rattle.program_octets.proofs.list.push_entries.Given as goal

-- the rows so far and those of the entries that are left make the whole
abbrev pub invariant-loop-tag : goal.invariant-loop-tag
invariant-loop-tag l = with_rows l.to (entry_rows l.at (drop l.tag-index l.entries))
    ≡ with_rows l.fn.to (entry_rows 0 l.entries)
