-- What the program prints about a command.
use Rattle.std.specs.Prelude.{ℕ, ◌-◌, List, [], ◌∷◌, ◌++◌, Option, Some, None, codes, decimal, length, slice_index}
use Rattle.hex.specs.Hex.{encode_upper}
use Rattle.apdu_core.specs.Command.{CommandParts, IsCommand, IsReason, le_of, part_of, shape_of}
use Rattle.apdu_core.specs.declared.command.Shape.{Shape}
use Rattle.apdu_core.specs.declared.command.Shape.TheVariants.{Empty, ShortLe, ShortPart, ShortBoth, LongLe, LongPart, LongBoth}
pub use Rattle.apdu_core.specs.Names.{command_reason_name as reason_text}
use Rattle.notes.specs.Says.{header_note, le_says, note_of, part_note}
use Rattle.program_octets.specs.Places.{from_to}
use Rattle.program_octets.specs.Rows.{Row, row}
use Rattle.program_octets.specs.Texts.{octets_text}
use Rattle.octet_core.specs.Grammar.{whole}
use Rattle.apdu_core.specs.declared.reason.CommandReason.{CommandReason}
use Rattle.program_octets.specs.Codec.{Codec}

-- the case of a shape
abbrev pub shape_text : Shape → List ℕ
shape_text Empty = codes "case 1"
shape_text ShortLe = codes "case 2 short"
shape_text ShortPart = codes "case 3 short"
shape_text ShortBoth = codes "case 4 short"
shape_text LongLe = codes "case 2 extended"
shape_text LongPart = codes "case 3 extended"
shape_text LongBoth = codes "case 4 extended"

-- Le as a number, or a word if it is absent
abbrev pub le_or : List ℕ → Option ℕ → List ℕ
le_or absent None = absent
le_or absent (Some le) = decimal le

-- how many octets Le has: with an extended Le alone also the octet 00 before it
abbrev pub le_size : Shape → ℕ
le_size Empty = 0
le_size ShortLe = 1
le_size ShortPart = 0
le_size ShortBoth = 1
le_size LongLe = 3
le_size LongPart = 0
le_size LongBoth = 2

-- the row of the case of a command that takes n octets
abbrev pub shape_row : Shape → ℕ → Row
shape_row shape n = row (shape_text shape) [] (from_to 0 n)

abbrev pub header_row : List ℕ → Row
header_row header = row (codes "header " ++ encode_upper header)
    (header_note (slice_index header 0) (slice_index header 1)) (from_to 0 4)

-- the row of a data field with Lc before it, up to this place
abbrev pub part_row : List ℕ → ℕ → Row
part_row part end = row (codes "part " ++ octets_text part) (part_note (length part)) (from_to 4 end)

abbrev pub le_row : Option ℕ → List (ℕ × ℕ) → Row
le_row le place = row (codes "le " ++ le_or (codes "none") le) (note_of (le_says le)) place

-- a command that takes n octets, row by row; Le begins at this place
abbrev pub rows_by : CommandParts → ℕ → ℕ → List Row
rows_by c le n = shape_row (shape_of c.body) n ∷ header_row c.header ∷ part_row (part_of c.body) le
    ∷ le_row (le_of c.body) (from_to le n) ∷ []

abbrev pub command_rows : CommandParts → ℕ → List Row
command_rows c n = rows_by c (n - le_size (shape_of c.body)) n

-- the case of a shape and the kind of its length fields
abbrev pub shape_members : Shape → List ℕ
shape_members Empty = codes ",\"case\":1"
shape_members ShortLe = codes ",\"case\":2,\"length\":\"short\""
shape_members ShortPart = codes ",\"case\":3,\"length\":\"short\""
shape_members ShortBoth = codes ",\"case\":4,\"length\":\"short\""
shape_members LongLe = codes ",\"case\":2,\"length\":\"extended\""
shape_members LongPart = codes ",\"case\":3,\"length\":\"extended\""
shape_members LongBoth = codes ",\"case\":4,\"length\":\"extended\""

-- a command as members of an object
abbrev pub command_members : CommandParts → List ℕ
command_members c =
    shape_members (shape_of c.body) ++ (codes ",\"header\":\""
    ++ (encode_upper c.header ++ (codes "\",\"part\":\""
    ++ (encode_upper (part_of c.body) ++ (codes "\",\"le\":" ++ le_or (codes "null") (le_of c.body))))))

abbrev pub command_codec : Codec CommandParts CommandReason
command_codec = record {
  ending = whole;
  Spells = IsCommand;
  IsReason = IsReason;
  name = reason_text;
  rows = command_rows;
  members = command_members;
}
