-- The header of an object, octet by octet.
use Rattle.std.specs.Prelude.{◌≡◌, ℕ, ◌+◌, ◌*◌, ◌-◌, ◌^◌, ◌<◌, List, [], ◌∷◌, ◌++◌}
use Rattle.std.specs.Prelude.{Option, Some, None}
use Rattle.tlv_core.specs.declared.header.ObjectHeader.{ObjectHeader}
use Rattle.tlv_core.specs.Number.{high_first}
use Rattle.tlv_core.specs.Form.{further, capacity}
use Rattle.tlv_core.specs.Tag.{IsTag, IsLong, header_of}
use Rattle.tlv_core.specs.declared.tag_part.TagPart.{TagPart}
use Rattle.tlv_core.specs.declared.tag_part.TagPart.TheVariants as part
use Rattle.tlv_core.specs.declared.header.Header.{Header}
use Rattle.tlv_core.specs.declared.header.Header.TheVariants as header
use Rattle.tlv_core.specs.declared.header.Next.{Next}
use Rattle.tlv_core.specs.declared.header.Next.TheVariants as next

-- the octets of a header that were read so far
abbrev pub header_octets : Header → List ℕ
header_octets header.Nothing = []
header_octets (header.First first) = first ∷ []
header_octets (header.Second first second) = first ∷ second ∷ []
header_octets (header.Tagged tag) = tag
header_octets (header.Sized tag form read number) = tag ++ (128 + further form) ∷ high_first read number

-- the fields are consistent: octets that can begin a header, in the variant for them
abbrev pub IsWell : Header → Type 0
IsWell header.Nothing = Unit {0}
IsWell (header.First first) = (first < 256) × IsLong first
IsWell (header.Second first second) = (first < 256) × IsLong first × (128 < second) × (second < 256)
IsWell (header.Tagged tag) = IsTag tag
IsWell (header.Sized tag form read number) = IsTag tag × (read < further form) × (number < 256 ^ read)

-- the header that has only octets of a tag so far
abbrev pub header_from : TagPart → Header
header_from part.Nothing = header.Nothing
header_from (part.First first) = header.First first
header_from (part.Second first second) = header.Second first second
header_from (part.Tagged tag) = header.Tagged tag

-- the result of the octet x after the start h of a header: a filler, a longer start, or a whole
-- header
abbrev pub IsNext : List ℕ → ℕ → Next → Type 0
IsNext h x next.Filler = (h ≡ []) × (x ≡ 0)
IsNext h x (next.Under longer) = IsWell longer × (header_octets longer ≡ h ++ x ∷ [])
IsNext h x (next.Object o) = IsTag o.tag × (o.len < capacity o.form) × (header_of o.tag o.form o.len ≡ h ++ x ∷ [])

-- the least number of octets of the object that must still come
abbrev pub header_need : Header → ℕ
header_need header.Nothing = 0
header_need (header.First first) = 2
header_need (header.Second first second) = 2
header_need (header.Tagged tag) = 1
header_need (header.Sized tag form read number) = (further form - read) + number * 256 ^ (further form - read)

-- the least number of octets that must still come after this result of an octet
abbrev pub next_need : Next → ℕ
next_need next.Filler = 0
next_need (next.Under longer) = header_need longer
next_need (next.Object o) = o.len

-- the unfinished header in the result is consistent
abbrev pub IsWellNext : Next → Type 0
IsWellNext next.Filler = Unit {0}
IsWellNext (next.Under longer) = IsWell longer
IsWellNext (next.Object o) = Unit {0}

-- the unfinished header after the octet
abbrev pub header_in : Next → Header
header_in next.Filler = header.Nothing
header_in (next.Under longer) = longer
header_in (next.Object o) = header.Nothing

-- the object whose header the octet ended
abbrev pub object_in : Next → Option ObjectHeader
object_in next.Filler = None
object_in (next.Under longer) = None
object_in (next.Object o) = Some o
