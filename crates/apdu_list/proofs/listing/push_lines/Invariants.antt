use Rattle.std.proofs.Common.{◌≡◌, ◌≤◌, ◌++◌, drop}
use Rattle.std.specs.Prelude.{string_bytes}
use Rattle.apdu_list.specs.Listing.{apdus_text, text_from}
use Rattle.apdu_list.proofs.listing.push_lines.Given as goal

-- the text so far and what the lines that are left bring to it, by what is kept; a line counts one command or block at
-- most
abbrev pub invariant-loop-line : goal.invariant-loop-line
invariant-loop-line l =
    (string_bytes l.text ++ text_from l.account (drop l.line-index l.lines) ≡ string_bytes l.fn.text
    ++ apdus_text l.lines)
    × (l.account.commands ≤ l.line-index) × (l.account.sent ≤ l.line-index)
