use Rattle.std.proofs.Common.{◌≡◌, ◌+◌, List, ℕ, length, take}
use Rattle.tlv_core.specs.TagPart.{part_octets, IsTagPart}
use Rattle.tlv_core.specs.Dol.{HasListed}
use Rattle.tlv_core.proofs.Listing.{Listing}
use Rattle.tlv_core.proofs.entry_walk.entry_at.Given as goal

-- the octets from the beginning of the entry on are those of the part
abbrev pub invariant-loop-place : goal.invariant-loop-place
invariant-loop-place l = record {
  place : l.place ≡ l.from + length (part_octets l.part);
  part : IsTagPart l.part;
  listed : (entries : List (List ℕ × ℕ)) → HasListed l.octets l.from entries
      → Listing (take l.place l.octets) entries l.part;
}
