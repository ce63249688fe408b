use Rattle.std.proofs.Common.{◌≡◌, ◌≤◌, drop}
use Rattle.std.specs.Prelude.{string_bytes}
use Rattle.apdu_list.specs.Items.{apdu_items, items_from}
use Rattle.apdu_list.proofs.items.items_of.Given as goal

-- the items so far and what the lines that are left bring to them, by what is kept; a line counts one command or block
-- at most
abbrev pub invariant-loop-line : goal.invariant-loop-line
invariant-loop-line l =
    (items_from (string_bytes l.items) l.account l.command (drop l.line-index l.lines) ≡ apdu_items l.lines)
    × (l.account.commands ≤ l.line-index) × (l.account.sent ≤ l.line-index)
