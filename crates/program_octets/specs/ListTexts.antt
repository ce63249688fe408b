-- What the program prints about a data object list.
use Rattle.std.specs.Prelude.{ℕ, List, [], ◌∷◌, ◌++◌, length, codes, decimal}
use Rattle.hex.specs.Hex.{encode_upper}
pub use Rattle.tlv_core.specs.Names.{dol_reason_name as reason_text}
use Rattle.notes.specs.Says.{list_note}
use Rattle.program_octets.specs.Places.{from_to}
use Rattle.program_octets.specs.Rows.{Row, row}
use Rattle.program_octets.specs.Texts.{octets_text}
use Rattle.layouts.specs.Items.{with_item}
use Rattle.octet_core.specs.Grammar.{whole}
use Rattle.tlv_core.specs.Dol.{IsDol, IsDolReason, place_after}
use Rattle.tlv_core.specs.declared.reason.DolReason.{DolReason}
use Rattle.program_octets.specs.Codec.{Codec}

-- the number of entries of a list that takes n octets
abbrev pub count_row : List (List ℕ × ℕ) → ℕ → Row
count_row entries n = row (codes "entries " ++ decimal (length entries)) (list_note entries) (from_to 0 n)

-- the tag and the length of an entry
abbrev pub entry_line : List ℕ → ℕ → List ℕ
entry_line tag length = encode_upper tag ++ (codes " " ++ decimal length)

abbrev pub entry_row : List ℕ × ℕ → List (ℕ × ℕ) → Row
entry_row e place = row (entry_line e.0 e.1) [] place

-- entries from this place on
abbrev pub entry_rows : ℕ → List (List ℕ × ℕ) → List Row
entry_rows at [] = []
entry_rows at (e ∷ entries) = entry_row e (from_to at (place_after at e)) ∷ entry_rows (place_after at e) entries

-- a list that takes n octets, row by row
abbrev pub dol_rows : List (List ℕ × ℕ) → ℕ → List Row
dol_rows entries n = count_row entries n ∷ entry_rows 0 entries

-- an entry as an object
abbrev pub entry_object : List ℕ × ℕ → List ℕ
entry_object e = codes "{\"tag\":\"" ++ (encode_upper e.0 ++ (codes "\",\"length\":" ++ (decimal e.1 ++ codes "}")))

-- entries after other items
abbrev pub with_entries : List ℕ → List (List ℕ × ℕ) → List ℕ
with_entries items [] = items
with_entries items (e ∷ entries) = with_entries (with_item items (entry_object e)) entries

-- a list as members of an object
abbrev pub dol_members : List (List ℕ × ℕ) → List ℕ
dol_members entries = codes ",\"count\":" ++ (decimal (length entries) ++ (codes ",\"entries\":[" ++
    (with_entries [] entries ++ codes "]")))

-- the octets that fill a list
abbrev pub filled_text : List ℕ → List ℕ
filled_text octets = octets_text octets ++ codes "\n"

abbrev pub list_codec : Codec (List (List ℕ × ℕ)) DolReason
list_codec = record {
  ending = whole;
  Spells = IsDol;
  IsReason = IsDolReason;
  name = reason_text;
  rows = dol_rows;
  members = dol_members;
}
