-- The notes on octets, by the tables of the standards.
use Rattle.std.specs.Prelude.{◌==◌, ◌||◌, ◌&&◌, ◌+◌, ◌-◌, ◌*◌, ◌/◌, ◌%◌, ◌^◌, min, nat_le, ℕ, List, [], ◌∷◌, ◌++◌, length, slice_index, codes, decimal, Option, Some, None, Result, Ok, Err, Bool, if◌then◌else◌}
use Rattle.std.specs.List.{list_all}
use Rattle.atr_core.specs.T1.{T1Values}
use Rattle.atr_core.specs.declared.atr.Indicated.{Indicated}
use Rattle.atr_core.specs.declared.params.ParamFault.{ParamFault}
use Rattle.tlv_core.specs.Flat.{PartValue}
use Rattle.tlv_core.specs.Tag.{constructed_bit, length_field}
use Rattle.notes.specs.Tables.{instructions, statuses}

-- words, a number after them, if there is one, and the words after that
pub record NoteText : Type 0 where
  pub before : List ℕ
  pub number : Option ℕ
  pub after : List ℕ

abbrev pub said : List ℕ → Option ℕ → List ℕ → NoteText
said before number after = record { before = before; number = number; after = after }

-- the text of words and a number
abbrev pub note_text : List ℕ → Option ℕ → List ℕ → List ℕ
note_text before None after = before
note_text before (Some number) after = before ++ (decimal number ++ after)

-- the note of words and a number
unfoldable pub note_of : NoteText → List ℕ
note_of said = note_text said.before said.number said.after

-- words alone
abbrev pub words : List ℕ → NoteText
words text = said text None []

-- the name in the first row of a table that this holds of, if there is one
abbrev pub named : {Row : Type 0} → (Row → Bool) → (Row → List ℕ) → List Row → List ℕ
named is name [] = []
named is name (row ∷ rows) = if is row then name row else named is name rows

-- ---- commands (ISO/IEC 7816-4:2005, 5.1.1 and 5.1.2)

-- secure messaging, by its two bits, and the word before the channel
abbrev pub secured : ℕ → List ℕ
secured bits =
    if bits == 0 then codes "no secure messaging, channel "
    else if bits == 1 then codes "secure messaging in a proprietary format, channel "
    else if bits == 2 then codes "secure messaging, header not processed, channel "
    else codes "secure messaging, header authenticated, channel "

-- whether more commands of a chain follow, by its bit
abbrev pub chained : ℕ → List ℕ
chained bit = if bit == 0 then [] else codes ", more commands of its chain follow"

-- a class
abbrev pub class_says : ℕ → NoteText
class_says class =
    if nat_le class 0x1F then said (secured (class / 4 % 4)) (Some (class % 4)) (chained (class / 16 % 2))
    else if nat_le class 0x3F then words (codes "reserved class")
    else if nat_le class 0x7F
    then said (secured (class / 32 % 2 * 2)) (Some (class % 16 + 4)) (chained (class / 16 % 2))
    else if class == 0xFF then words (codes "invalid class")
    else words (codes "proprietary class")

-- whether a class is one of the standard
abbrev pub is_standard : ℕ → Bool
is_standard class = nat_le class 0x1F || (nat_le 0x40 class && nat_le class 0x7F)

-- an instruction in a class
abbrev pub instruction_says : ℕ → ℕ → List ℕ
instruction_says class instruction =
    if (nat_le 0x60 instruction && nat_le instruction 0x6F) || (nat_le 0x90 instruction && nat_le instruction 0x9F)
    then codes "invalid instruction"
    else if is_standard class then named (λ row. row.0 == instruction) (λ row. row.1) instructions
    else []

-- the name of an instruction before the words on its class
abbrev pub name_then : List ℕ → List ℕ
name_then [] = []
name_then (x ∷ name) = (x ∷ name) ++ codes ", "

abbrev pub header_note : ℕ → ℕ → List ℕ
header_note class instruction = name_then (instruction_says class instruction) ++ note_of (class_says class)

-- a data field of this many octets
abbrev pub part_note : ℕ → List ℕ
part_note len = if len == 0 then [] else codes "Lc " ++ decimal len

-- Le
abbrev pub le_says : Option ℕ → NoteText
le_says None = words []
le_says (Some le) =
    if le == 1 then words (codes "at most 1 octet of response data")
    else said (codes "at most ") (Some le) (codes " octets of response data")

-- ---- responses (ISO/IEC 7816-4:2005, 5.1.3)

-- SW2 as a number of octets, with the words after one octet or after any other number
abbrev pub there : List ℕ → ℕ → List ℕ → List ℕ → NoteText
there before sw2 one others =
    said before (Some (if sw2 == 0 then 256 else sw2)) (if sw2 == 1 then one else others)

-- status bytes
abbrev pub status_says : ℕ → ℕ → NoteText
status_says sw1 sw2 =
    if sw1 == 0x61 then there [] sw2 (codes " octet available") (codes " octets available")
    else if sw1 == 0x6C then there (codes "wrong Le: ") sw2 (codes " octet available") (codes " octets available")
    else if (sw1 == 0x62 || sw1 == 0x64) && (nat_le 0x02 sw2 && nat_le sw2 0x80)
    then said (codes "the card has a query of ") (Some sw2) (codes " octets")
    else if sw1 == 0x63 && (nat_le 0xC0 sw2 && nat_le sw2 0xCF)
    then said (codes "counter at ") (Some (sw2 - 0xC0)) (codes ", such as the tries left")
    else words (named (λ row. row.0 == sw1 && row.1 == sw2) (λ row. row.2) statuses)

-- ---- blocks (ISO/IEC 7816-3, 11.3.2)

abbrev pub target : ℕ → List ℕ
target address =
    if address == 0 then codes " to 0"
    else if address == 1 then codes " to 1"
    else if address == 2 then codes " to 2"
    else if address == 3 then codes " to 3"
    else if address == 4 then codes " to 4"
    else if address == 5 then codes " to 5"
    else if address == 6 then codes " to 6"
    else codes " to 7"

-- the addresses of a block
abbrev pub nad_says : ℕ → NoteText
nad_says nad = if nad == 0 then words [] else said (codes "from ") (Some (nad % 8)) (target (nad / 16 % 8))

-- the PCB of an S-block, with the first octet of its field
abbrev pub supervisory_says : ℕ → ℕ → NoteText
supervisory_says pcb first =
    if pcb == 0xC0 then words (codes "asks to resynchronize")
    else if pcb == 0xC1 then said (codes "asks for an information field size of ") (Some first) []
    else if pcb == 0xC2 then words (codes "asks to abort the chain")
    else if pcb == 0xC3 then said (codes "asks for ") (Some first) (codes " times the block waiting time")
    else if pcb == 0xE0 then words (codes "resynchronizes")
    else if pcb == 0xE1 then said (codes "agrees to an information field size of ") (Some first) []
    else if pcb == 0xE2 then words (codes "aborts the chain")
    else if pcb == 0xE3 then said (codes "grants ") (Some first) (codes " times the block waiting time")
    else words []

-- a PCB, with the first octet of its field
abbrev pub pcb_says : ℕ → ℕ → NoteText
pcb_says pcb first =
    if pcb == 0x00 || pcb == 0x40 then said (codes "I-block ") (Some (pcb / 64)) (codes ", the last of its chain")
    else if pcb == 0x20 || pcb == 0x60
    then said (codes "I-block ") (Some (pcb / 64)) (codes ", more blocks of its chain follow")
    else if pcb == 0x80 || pcb == 0x90 then said (codes "no error, asks for block ") (Some (pcb / 16 % 2)) []
    else if pcb == 0x81 || pcb == 0x91
    then said (codes "parity or LRC error, asks for block ") (Some (pcb / 16 % 2)) (codes " again")
    else if pcb == 0x82 || pcb == 0x92
    then said (codes "another error, asks for block ") (Some (pcb / 16 % 2)) (codes " again")
    else supervisory_says pcb first

-- an LRC
abbrev pub lrc_says : NoteText
lrc_says = words (codes "exclusive-or of the octets before it")

-- ---- answers to reset (ISO/IEC 7816-3, 8.2.3 and 8.3)

-- the protocol that a TD indicates
abbrev pub td_says : ℕ → NoteText
td_says protocol =
    if protocol == 15 then words (codes "global interface bytes") else said (codes "offers T=") (Some protocol) []

-- TA2
abbrev pub mode_says : ℕ → NoteText
mode_says ta2 = said (codes "specific mode, T=") (Some (ta2 % 16)) []

-- a TA by its number
abbrev pub ta_says : ℕ → ℕ → NoteText
ta_says number ta = if number == 2 then mode_says ta else words []

abbrev pub tck_says : Option ℕ → NoteText
tck_says None = words []
tck_says (Some tck) = words (codes "exclusive-or of T0 to TCK is 00")

-- the parameters of T=1, and the TDs
abbrev pub t1_says : Result T1Values ParamFault → List Indicated → NoteText
t1_says (Ok values) indicated = words (codes "error detection by LRC")
t1_says (Err fault) indicated = if length indicated == 0 then words (codes "offers only T=0") else words []

-- ---- numbers of octets

abbrev pub counted : ℕ → List ℕ
counted n = if n == 1 then codes "1 octet" else decimal n ++ codes " octets"

-- the note on a number of octets: none on 0
abbrev pub count_note : ℕ → List ℕ
count_note n = if n == 0 then [] else counted n

-- how many octets the entries of a list request, at most 2 ^ 64 - 1; those before them request this many
abbrev pub asked_from : ℕ → List (List ℕ × ℕ) → ℕ
asked_from before [] = before
asked_from before (entry ∷ entries) =
    asked_from (min (before + entry.1) (2 ^ 64 - 1)) entries

abbrev pub list_note : List (List ℕ × ℕ) → List ℕ
list_note entries = codes "asks for " ++ counted (asked_from 0 entries)

-- ---- data objects (ISO/IEC 7816-4:2005, 5.2.2.1)

-- the class of a tag, by its first octet
abbrev pub tag_says : ℕ → List ℕ
tag_says first =
    if first / 64 == 0 then codes "universal class"
    else if first / 64 == 1 then codes "application class"
    else if first / 64 == 2 then codes "context-specific class"
    else codes "private class"

-- ---- octets as text

abbrev pub is_printable : ℕ → Bool
is_printable c = nat_le 0x20 c && nat_le c 0x7E

-- octets that are also shown as text
abbrev pub is_text : List ℕ → Bool
is_text octets = nat_le 1 (length octets) && nat_le (length octets) 40 && list_all is_printable octets

abbrev pub quoted : List ℕ → List ℕ
quoted octets = codes "\"" ++ (octets ++ codes "\"")

-- the note on octets that are text
abbrev pub text_note : List ℕ → List ℕ
text_note octets = if is_text octets then quoted octets else []

-- ---- objects of a forest

-- the place of the header
abbrev pub header_place : PartValue → ℕ
header_place p = p.place - (length p.tag + length (length_field p.form (length p.value)))

-- the value as text, if it is text, after a separator
abbrev pub value_quoted : PartValue → List ℕ
value_quoted p =
    if constructed_bit p.tag == 1 then [] else if is_text p.value then codes ", " ++ quoted p.value else []

-- the length of the value, its class, and its text
abbrev pub value_note : PartValue → List ℕ
value_note p = counted (length p.value) ++ (codes ", " ++ (tag_says (slice_index p.tag 0) ++ value_quoted p))

abbrev pub object_note : PartValue → List ℕ
object_note p = codes "at " ++ (decimal (header_place p) ++ (codes ", value at "
    ++ (decimal p.place ++ (codes ", " ++ value_note p))))
