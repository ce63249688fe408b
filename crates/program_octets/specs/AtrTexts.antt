-- What the program prints about an answer to reset.
use Rattle.std.specs.Prelude.{ℕ, ◌+◌, ◌-◌, ◌%◌, List, [], ◌∷◌, ◌++◌, codes, decimal, length, Option, Some, None, Result, Ok, Err}
use Rattle.hex.specs.Hex.{encode_upper}
use Rattle.atr_core.specs.Atr.{AtrParts, IsAtr, IsReason, announcing, count_of, goes_on, needs_tck, tck_of}
use Rattle.atr_core.specs.Rates.{rates_of}
use Rattle.atr_core.specs.T1.{T1Values, t1_params_of}
use Rattle.atr_core.specs.declared.atr.Convention.{Convention}
use Rattle.atr_core.specs.declared.atr.Convention.TheVariants.{Direct, Inverse}
use Rattle.atr_core.specs.declared.atr.Interface.{Interface}
use Rattle.atr_core.specs.declared.atr.Indicated.{Indicated}
use Rattle.atr_core.specs.declared.params.ParamFault.{ParamFault}
pub use Rattle.atr_core.specs.Names.{reason_name as reason_text}
use Rattle.atr_core.specs.Names.{param_fault_name}
use Rattle.notes.specs.Says.{note_of, t1_says, ta_says, tck_says, td_says, text_note}
use Rattle.program_octets.specs.Places.{from_to}
use Rattle.program_octets.specs.Rows.{Row, row}
use Rattle.program_octets.specs.Texts.{octets_text}
use Rattle.layouts.specs.Items.{with_item}
use Rattle.octet_core.specs.Grammar.{self_ended}
use Rattle.atr_core.specs.declared.reason.AtrReason.{AtrReason}
use Rattle.program_octets.specs.Codec.{Codec}

abbrev pub convention_text : Convention → List ℕ
convention_text Direct = codes "direct"
convention_text Inverse = codes "inverse"

abbrev pub byte_line : List ℕ → ℕ → ℕ → List ℕ
byte_line name number byte = name ++ (decimal number ++ (codes " " ++ encode_upper (byte ∷ [])))

-- an interface byte at this place, by its name
abbrev pub value_row : List ℕ → ℕ → ℕ → List ℕ → ℕ → Row
value_row name number byte note at = row (byte_line name number byte) note (from_to at (at + 1))

-- an interface byte without a note, if it is present
abbrev pub byte_rows : List ℕ → ℕ → Option ℕ → ℕ → List Row
byte_rows name number None at = []
byte_rows name number (Some byte) at = value_row name number byte [] at ∷ []

-- a TA, if it is present
abbrev pub ta_rows : ℕ → Option ℕ → ℕ → List Row
ta_rows number None at = []
ta_rows number (Some ta) at = value_row (codes "TA") number ta (note_of (ta_says number ta)) at ∷ []

-- the place after an interface byte, if it is present
abbrev pub after_byte : Option ℕ → ℕ → ℕ
after_byte None at = at
after_byte (Some byte) at = at + 1

-- the TA, the TB and the TC that are present, from this place on
abbrev pub bytes_rows : ℕ → Interface → ℕ → List Row
bytes_rows number bytes at = ta_rows number bytes.ta at
    ++ (byte_rows (codes "TB") number bytes.tb (after_byte bytes.ta at)
    ++ byte_rows (codes "TC") number bytes.tc (after_byte bytes.tb (after_byte bytes.ta at)))

abbrev pub after_bytes : Interface → ℕ → ℕ
after_bytes bytes at = after_byte bytes.tc (after_byte bytes.tb (after_byte bytes.ta at))

-- a TD and the bytes that it announces
abbrev pub td_rows : ℕ → Interface → ℕ → ℕ → List Row
td_rows number bytes octet at = value_row (codes "TD") number octet (note_of (td_says (octet % 16))) at
    ∷ bytes_rows (number + 1) bytes (at + 1)

abbrev pub tds_rows : ℕ → List Indicated → ℕ → List Row
tds_rows number [] at = []
tds_rows number (x ∷ xs) at = td_rows number x.bytes (announcing x.bytes (goes_on xs) x.protocol) at
    ++ tds_rows (number + 1) xs (after_bytes x.bytes (at + 1))

abbrev pub tck_text : Option ℕ → List ℕ
tck_text None = codes "absent"
tck_text (Some tck) = encode_upper (tck ∷ [])

-- F or D as a number, or a word if the index is reserved
abbrev pub rate_or : List ℕ → Option ℕ → List ℕ
rate_or reserved None = reserved
rate_or reserved (Some rate) = decimal rate

abbrev pub t1_text : Result T1Values ParamFault → List ℕ
t1_text (Ok values) = codes "ifsc " ++ (decimal values.ifsc
    ++ (codes " bwi " ++ (decimal values.bwi ++ (codes " cwi " ++ decimal values.cwi))))
t1_text (Err fault) = param_fault_name fault

-- the place after the historical bytes: TCK is the last octet, if it is present
abbrev pub tck_place : AtrParts → ℕ → ℕ
tck_place a n = n - count_of (needs_tck a.indicated)

-- the place after the interface bytes
abbrev pub historical_place : AtrParts → ℕ → ℕ
historical_place a n = tck_place a n - length a.historical

abbrev pub historical_row : List ℕ → List (ℕ × ℕ) → Row
historical_row historical place = row (codes "historical " ++ octets_text historical) (text_note historical) place

abbrev pub tck_row : Option ℕ → List (ℕ × ℕ) → Row
tck_row tck place = row (codes "tck " ++ tck_text tck) (note_of (tck_says tck)) place

-- F or D by its name; what the interface bytes mean has no octets of its own
abbrev pub rate_row : List ℕ → Option ℕ → ℕ → Row
rate_row name rate n = row (name ++ rate_or (codes "reserved") rate) [] (from_to n n)

-- the parameters of T=1
abbrev pub t1_row : AtrParts → ℕ → Row
t1_row a n = row (codes "t1 " ++ t1_text (t1_params_of a)) (note_of (t1_says (t1_params_of a) a.indicated))
    (from_to n n)

-- the rates, and the parameters of T=1
abbrev pub meaning_rows : AtrParts → ℕ → List Row
meaning_rows a n = rate_row (codes "F ") (rates_of a).0 n ∷ rate_row (codes "D ") (rates_of a).1 n ∷ t1_row a n ∷ []

-- the rows after those of the interface bytes
abbrev pub tail_rows : AtrParts → ℕ → List Row
tail_rows a n = historical_row a.historical (from_to (historical_place a n) (tck_place a n))
    ∷ tck_row (tck_of a) (from_to (tck_place a n) n) ∷ meaning_rows a n

-- TS
abbrev pub convention_row : Convention → Row
convention_row convention = row (codes "convention " ++ convention_text convention) [] (from_to 0 1)

-- each interface byte that is present, in its order; they are after T0
abbrev pub interface_rows : AtrParts → List Row
interface_rows a = bytes_rows 1 a.first 2 ++ tds_rows 1 a.indicated (after_bytes a.first 2)

-- an answer to reset that takes n octets, row by row
abbrev pub atr_rows : AtrParts → ℕ → List Row
atr_rows a n = convention_row a.convention ∷ (interface_rows a ++ tail_rows a n)

-- ---- as members of an object

-- an interface byte as an object
abbrev pub byte_object : List ℕ → ℕ → ℕ → List ℕ
byte_object name number byte = codes "{\"name\":\"" ++ (name ++ (decimal number
    ++ (codes "\",\"value\":\"" ++ (encode_upper (byte ∷ []) ++ codes "\"}"))))

-- an interface byte after other items, if it is present
abbrev pub with_byte : List ℕ → List ℕ → ℕ → Option ℕ → List ℕ
with_byte items name number None = items
with_byte items name number (Some byte) = with_item items (byte_object name number byte)

abbrev pub with_bytes : List ℕ → ℕ → Interface → List ℕ
with_bytes items number bytes = with_byte (with_byte (with_byte items (codes "TA") number bytes.ta) (codes "TB") number
    bytes.tb) (codes "TC") number bytes.tc

-- a TD and the bytes that it announces
abbrev pub with_td : List ℕ → ℕ → Interface → ℕ → List ℕ
with_td items number bytes octet = with_bytes (with_byte items (codes "TD") number (Some octet)) (number + 1) bytes

abbrev pub with_tds : List ℕ → ℕ → List Indicated → List ℕ
with_tds items number [] = items
with_tds items number (x ∷ xs) = with_tds (with_td items number x.bytes (announcing x.bytes (goes_on xs) x.protocol))
    (number + 1) xs

-- each interface byte that is present, in its order
abbrev pub interface_items : AtrParts → List ℕ
interface_items a = with_tds (with_bytes [] 1 a.first) 1 a.indicated

abbrev pub tck_value : Option ℕ → List ℕ
tck_value None = codes "null"
tck_value (Some tck) = codes "\"" ++ (encode_upper (tck ∷ []) ++ codes "\"")

-- the parameters of T=1, or why there are none
abbrev pub t1_object : Result T1Values ParamFault → List ℕ
t1_object (Ok values) = codes "{\"ifsc\":" ++ (decimal values.ifsc
    ++ (codes ",\"bwi\":" ++ (decimal values.bwi ++ (codes ",\"cwi\":" ++ (decimal values.cwi ++ codes "}")))))
t1_object (Err fault) = codes "{\"reason\":\"" ++ (param_fault_name fault ++ codes "\"}")

-- the rates, and the parameters of T=1
abbrev pub meaning_members : AtrParts → List ℕ
meaning_members a = codes ",\"F\":" ++ (rate_or (codes "null") (rates_of a).0
    ++ (codes ",\"D\":" ++ (rate_or (codes "null") (rates_of a).1 ++ (codes ",\"t1\":" ++ t1_object (t1_params_of a)))))

-- the end of the array of the interface bytes, and the members after it
abbrev pub tail_members : AtrParts → List ℕ
tail_members a = codes "],\"historical\":\"" ++ (encode_upper a.historical
    ++ (codes "\",\"tck\":" ++ (tck_value (tck_of a) ++ meaning_members a)))

-- an answer to reset as members of an object
abbrev pub atr_members : AtrParts → List ℕ
atr_members a = codes ",\"convention\":\"" ++ (convention_text a.convention
    ++ (codes "\",\"interface\":[" ++ (interface_items a ++ tail_members a)))

abbrev pub atr_codec : Codec AtrParts AtrReason
atr_codec = record {
  ending = self_ended;
  Spells = IsAtr;
  IsReason = IsReason;
  name = reason_text;
  rows = atr_rows;
  members = atr_members;
}
