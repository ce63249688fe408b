-- What the program prints about a block.
use Rattle.std.specs.Prelude.{ℕ, ◌-◌, List, [], ◌∷◌, ◌++◌, length, slice_index, Bool, true, false, codes, decimal}
use Rattle.hex.specs.Hex.{encode_upper}
use Rattle.octet_core.specs.Octets.{xor_of}
use Rattle.block_core.specs.Block.{Parts, IsBlock, IsReason, front_of, number_bit, fault_code, pcb_octet}
use Rattle.block_core.specs.declared.pcb.Pcb.{Pcb}
use Rattle.block_core.specs.declared.pcb.Pcb.TheVariants.{Info, Ready, Request, Response}
use Rattle.block_core.specs.declared.pcb.S.{S}
use Rattle.block_core.specs.declared.pcb.S.TheVariants.{Resynch, Ifs, Abort, Wtx}
pub use Rattle.block_core.specs.Names.{reason_name as reason_text}
use Rattle.notes.specs.Says.{count_note, lrc_says, nad_says, note_of, pcb_says}
use Rattle.program_octets.specs.Places.{from_to}
use Rattle.program_octets.specs.Rows.{Row, row}
use Rattle.program_octets.specs.Texts.{octets_text}
use Rattle.octet_core.specs.Grammar.{self_ended}
use Rattle.block_core.specs.declared.reason.BlockReason.{BlockReason}
use Rattle.program_octets.specs.Codec.{Codec}

abbrev pub supervisory_text : S → List ℕ
supervisory_text Resynch = codes "RESYNCH"
supervisory_text Ifs = codes "IFS"
supervisory_text Abort = codes "ABORT"
supervisory_text Wtx = codes "WTX"

abbrev pub more_number : Bool → ℕ
more_number false = 0
more_number true = 1

abbrev pub pcb_text : Pcb → List ℕ
pcb_text (Info number more) = codes "I number "
    ++ (decimal (number_bit number 1) ++ (codes " more " ++ decimal (more_number more)))
pcb_text (Ready number fault) = codes "R number "
    ++ (decimal (number_bit number 1) ++ (codes " error " ++ decimal (fault_code fault)))
pcb_text (Request about) = codes "S request " ++ supervisory_text about
pcb_text (Response about) = codes "S response " ++ supervisory_text about

abbrev pub nad_row : ℕ → Row
nad_row nad = row (codes "nad " ++ encode_upper (nad ∷ [])) (note_of (nad_says nad)) (from_to 0 1)

-- the row of a block's kind; the note is also about the first octet of its field
abbrev pub pcb_row : Pcb → List ℕ → Row
pcb_row pcb inf = row (codes "pcb " ++ pcb_text pcb) (note_of (pcb_says (pcb_octet pcb) (slice_index inf 0)))
    (from_to 1 2)

-- the row of a field up to this place; no row has LEN
abbrev pub inf_row : List ℕ → ℕ → Row
inf_row inf end = row (codes "inf " ++ octets_text inf) (count_note (length inf)) (from_to 3 end)

abbrev pub lrc_row : ℕ → List (ℕ × ℕ) → Row
lrc_row lrc place = row (codes "lrc " ++ encode_upper (lrc ∷ [])) (note_of lrc_says) place

-- a block with this LRC that takes n octets, row by row
abbrev pub lrc_rows : Parts → ℕ → ℕ → List Row
lrc_rows v lrc n = nad_row v.nad ∷ pcb_row v.pcb v.inf ∷ inf_row v.inf (n - 1) ∷ lrc_row lrc (from_to (n - 1) n) ∷ []

abbrev pub block_rows : Parts → ℕ → List Row
block_rows v n = lrc_rows v (xor_of (front_of v)) n

-- a control octet as an object
abbrev pub pcb_object : Pcb → List ℕ
pcb_object (Info number more) = codes "{\"kind\":\"I\",\"number\":"
    ++ (decimal (number_bit number 1) ++ (codes ",\"more\":" ++ (decimal (more_number more) ++ codes "}")))
pcb_object (Ready number fault) = codes "{\"kind\":\"R\",\"number\":"
    ++ (decimal (number_bit number 1) ++ (codes ",\"error\":" ++ (decimal (fault_code fault) ++ codes "}")))
pcb_object (Request about) = codes "{\"kind\":\"S\",\"request\":\"" ++ (supervisory_text about ++ codes "\"}")
pcb_object (Response about) = codes "{\"kind\":\"S\",\"response\":\"" ++ (supervisory_text about ++ codes "\"}")

-- a block with this LRC as members of an object
abbrev pub lrc_members : Parts → ℕ → List ℕ
lrc_members v lrc = codes ",\"nad\":\"" ++ (encode_upper (v.nad ∷ [])
    ++ (codes "\",\"pcb\":" ++ (pcb_object v.pcb
    ++ (codes ",\"inf\":\"" ++ (encode_upper v.inf
    ++ (codes "\",\"lrc\":\"" ++ (encode_upper (lrc ∷ []) ++ codes "\"")))))))

-- a block as members of an object
abbrev pub block_members : Parts → List ℕ
block_members v = lrc_members v (xor_of (front_of v))

-- the codec for an information size
abbrev pub block_codec : ℕ → Codec Parts BlockReason
block_codec ifs = record {
  ending = self_ended;
  Spells = IsBlock ifs;
  IsReason = IsReason ifs;
  name =
      reason_text;
  rows = block_rows;
  members = block_members;
}
