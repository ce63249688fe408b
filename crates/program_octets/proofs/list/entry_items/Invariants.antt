use Rattle.std.proofs.Common.{◌≡◌, [], drop, string_bytes}
use Rattle.program_octets.specs.ListTexts.{with_entries}
use Rattle.program_octets.proofs.list.entry_items.Given as goal

-- the entries that are left, added to those so far, make the whole
abbrev pub invariant-loop-tag : goal.invariant-loop-tag
invariant-loop-tag l = with_entries (string_bytes l.items) (drop l.tag-index l.entries) ≡ with_entries [] l.entries
