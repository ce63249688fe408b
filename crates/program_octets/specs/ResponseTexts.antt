-- What the program prints about a response.
use Rattle.std.specs.Prelude.{ℕ, ◌-◌, List, [], ◌∷◌, ◌++◌, codes}
use Rattle.hex.specs.Hex.{encode_upper}
use Rattle.apdu_core.specs.Response.{ResponseParts, IsResponse, IsReason}
pub use Rattle.apdu_core.specs.Names.{response_reason_name as reason_text}
use Rattle.apdu_core.specs.Status.{class_of}
use Rattle.apdu_core.specs.declared.status.StatusClass.{StatusClass}
use Rattle.apdu_core.specs.declared.status.StatusClass.TheVariants.{Normal, Warning, Execution, Checking, Proprietary, Invalid}
use Rattle.notes.specs.Says.{note_of, status_says}
use Rattle.program_octets.specs.Places.{from_to}
use Rattle.program_octets.specs.Rows.{Row, row}
use Rattle.program_octets.specs.Texts.{octets_text}
use Rattle.octet_core.specs.Grammar.{whole}
use Rattle.apdu_core.specs.declared.reason.ResponseReason.{ResponseReason}
use Rattle.program_octets.specs.Codec.{Codec}

abbrev pub name_of : StatusClass → List ℕ
name_of Normal = codes "normal"
name_of Warning = codes "warning"
name_of Execution = codes "execution"
name_of Checking = codes "checking"
name_of Proprietary = codes "proprietary"
name_of Invalid = codes "invalid"

abbrev pub class_text : ℕ → ℕ → List ℕ
class_text sw1 sw2 = name_of (class_of sw1 sw2)

-- the row of a data field, whose octets end at this place
abbrev pub part_row : List ℕ → ℕ → Row
part_row part end = row (codes "part " ++ octets_text part) [] (from_to 0 end)

-- the row of two status bytes and their class
abbrev pub status_line : ℕ → ℕ → List ℕ
status_line sw1 sw2 = codes "status " ++ (encode_upper (sw1 ∷ sw2 ∷ []) ++ (codes " " ++ class_text sw1 sw2))

abbrev pub status_row : ℕ → ℕ → List (ℕ × ℕ) → Row
status_row sw1 sw2 place = row (status_line sw1 sw2) (note_of (status_says sw1 sw2)) place

-- a response that takes n octets, row by row
abbrev pub response_rows : ResponseParts → ℕ → List Row
response_rows r n = part_row r.part (n - 2) ∷ status_row r.sw1 r.sw2 (from_to (n - 2) n) ∷ []

-- two status bytes and their class as members of an object
abbrev pub status_members : ℕ → ℕ → List ℕ
status_members sw1 sw2 = codes ",\"status\":\"" ++ (encode_upper (sw1 ∷ sw2 ∷ [])
    ++ (codes "\",\"class\":\"" ++ (class_text sw1 sw2 ++ codes "\"")))

-- a response as members of an object
abbrev pub response_members : ResponseParts → List ℕ
response_members r = codes ",\"part\":\"" ++ (encode_upper r.part ++ (codes "\"" ++ status_members r.sw1 r.sw2))

abbrev pub response_codec : Codec ResponseParts ResponseReason
response_codec = record {
  ending = whole;
  Spells = IsResponse;
  IsReason = IsReason;
  name = reason_text;
  rows = response_rows;
  members = response_members;
}
