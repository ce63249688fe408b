-- The start of a tag.
use Rattle.std.specs.Prelude.{ℕ, ◌<◌, List, [], ◌∷◌}
use Rattle.tlv_core.specs.Tag.{IsTag, IsLong}
use Rattle.tlv_core.specs.declared.tag_part.TagPart.{TagPart}
use Rattle.tlv_core.specs.declared.tag_part.TagPart.TheVariants as part

-- the octets of a tag that were read so far
abbrev pub part_octets : TagPart → List ℕ
part_octets part.Nothing = []
part_octets (part.First first) = first ∷ []
part_octets (part.Second first second) = first ∷ second ∷ []
part_octets (part.Tagged tag) = tag

-- the fields are consistent: octets that can begin a tag, in the variant for them
abbrev pub IsTagPart : TagPart → Type 0
IsTagPart part.Nothing = Unit {0}
IsTagPart (part.First first) = (first < 256) × IsLong first
IsTagPart (part.Second first second) = (first < 256) × IsLong first × (128 < second) × (second < 256)
IsTagPart (part.Tagged tag) = IsTag tag
