-- What the program prints about a forest of data objects.
use Rattle.std.specs.Prelude.{ℕ, List, [], ◌∷◌, ◌++◌, ◌+◌, ◌-◌, ◌==◌, length, codes, decimal, if◌then◌else◌}
use Rattle.std.specs.List.{repeat}
use Rattle.hex.specs.Hex.{encode_upper}
use Rattle.tlv_core.specs.Tag.{constructed_bit, length_field}
use Rattle.tlv_core.specs.Flat.{PartValue, parts_of}
use Rattle.tlv_core.specs.Tree.{Tree}
use Rattle.tlv_core.specs.Forest.{largest, spelling, IsForest}
use Rattle.tlv_core.specs.Tidy.{tidy}
pub use Rattle.tlv_core.specs.Names.{reason_name as reason_text}
use Rattle.notes.specs.Says.{header_place, object_note}
use Rattle.program_octets.specs.Places.{from_to}
use Rattle.program_octets.specs.Rows.{Row, row}
use Rattle.program_octets.specs.Texts.{octets_text}
use Rattle.layouts.specs.Items.{with_item}
use Rattle.octet_core.specs.Grammar.{whole}
use Rattle.tlv_core.specs.Reasons.{IsReason}
use Rattle.tlv_core.specs.declared.reason.TlvReason.{TlvReason}
use Rattle.program_octets.specs.Codec.{Codec}

-- the octets of the tidied forest
abbrev pub tidied_text : Tree → List ℕ
tidied_text t = octets_text (spelling (tidy t)) ++ codes "\n"

-- the octets of a value, or that it is constructed
abbrev pub value_text : PartValue → List ℕ
value_text p = if constructed_bit p.tag == 1 then codes "constructed" else octets_text p.value

-- an object, after two spaces for each depth above 1
abbrev pub part_line : PartValue → List ℕ
part_line p = repeat (p.depth - 1) (codes "  ")
    ++ (encode_upper p.tag ++ (codes " " ++ (encode_upper (length_field p.form (length p.value)) ++ (codes " "
    ++ value_text p))))

abbrev pub placed_row : PartValue → List (ℕ × ℕ) → Row
placed_row p place = row (part_line p) (object_note p) place

-- the same with its octets, from its tag to the end of its value
abbrev pub part_row : PartValue → Row
part_row p = placed_row p (from_to (header_place p) (p.place + length p.value))

abbrev pub object_rows : List PartValue → List Row
object_rows [] = []
object_rows (p ∷ parts) = part_row p ∷ object_rows parts

-- the number of objects that take n octets
abbrev pub count_row : ℕ → ℕ → Row
count_row count n = row (codes "objects " ++ decimal count) [] (from_to 0 n)

-- the number of objects, and each of them
abbrev pub parts_rows : List PartValue → ℕ → List Row
parts_rows parts n = count_row (length parts) n ∷ object_rows parts

-- that an object is constructed, or the octets of its value
abbrev pub value_member : PartValue → List ℕ
value_member p = if constructed_bit p.tag == 1 then codes ",\"constructed\":true"
    else codes ",\"value\":\"" ++ (encode_upper p.value ++ codes "\"")

-- the depth of an object from 1, and the places of its header and of its value
abbrev pub place_members : PartValue → List ℕ
place_members p = codes "\"depth\":" ++ (decimal p.depth
    ++ (codes ",\"at\":" ++ (decimal (header_place p) ++ (codes ",\"value_at\":" ++ decimal p.place))))

-- its tag and its length field
abbrev pub header_members : PartValue → List ℕ
header_members p = codes ",\"tag\":\"" ++ (encode_upper p.tag
    ++ (codes "\",\"length\":\"" ++ (encode_upper (length_field p.form (length p.value)) ++ codes "\"")))

-- a data object as a JSON object: these members, and its value
abbrev pub part_object : PartValue → List ℕ
part_object p = codes "{" ++ (place_members p ++ (header_members p ++ (value_member p ++ codes "}")))

-- objects after other items
abbrev pub with_objects : List ℕ → List PartValue → List ℕ
with_objects items [] = items
with_objects items (p ∷ parts) = with_objects (with_item items (part_object p)) parts

-- the number of objects, and the beginning of their array
abbrev pub objects_head : ℕ → List ℕ
objects_head count = codes ",\"count\":" ++ (decimal count ++ codes ",\"objects\":[")

-- the number of objects, and each of them, as members of an object
abbrev pub parts_members : List PartValue → List ℕ
parts_members parts = objects_head (length parts) ++ (with_objects [] parts ++ codes "]")

abbrev pub forest_members : Tree → List ℕ
forest_members t = parts_members (parts_of 1 0 t)

-- the objects of a forest, each before those inside it
abbrev pub forest_rows : Tree → ℕ → List Row
forest_rows t n = parts_rows (parts_of 1 0 t) n

abbrev pub forest_codec : Codec Tree TlvReason
forest_codec = record {
  ending = whole;
  Spells = IsForest largest;
  IsReason = IsReason largest;
  name =
      reason_text;
  rows = forest_rows;
  members = forest_members;
}
