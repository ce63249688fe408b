use Rattle.std.proofs.Common.{◌≡◌, drop, length}
use Rattle.std.specs.List.{slice_split}
use Rattle.octet_core.specs.Words.{is_blank}
use Rattle.program_words.specs.Loose.{group_octets, grouped_octets}
use Rattle.program_words.proofs.Groups.{after}
use Rattle.program_words.proofs.loose.grouped_octets.Given as goal

-- the octets read so far and those of the groups that are left are those of the text
abbrev pub invariant-loop-group : goal.invariant-loop-group
invariant-loop-group l =
    after group_octets l.octets.items (drop (length l.yielded) (slice_split is_blank l.text)) ≡ grouped_octets l.text
