-- What the program prints about a chain.
use Rattle.std.specs.Prelude.{◌≡◌, ℕ, ◌+◌, List, [], ◌∷◌, ◌++◌, length, codes, decimal, true, None}
use Rattle.hex.specs.Hex.{encode_upper}
use Rattle.octet_core.specs.Grammar.{Accepts, self_ended}
use Rattle.block_core.specs.Block.{Parts, spelling}
use Rattle.block_core.specs.declared.pcb.Number.{Number}
pub use Rattle.chain_core.specs.Chain.{longest_message}
use Rattle.chain_core.specs.Chain.{IsChain, IsReason, message_of}
use Rattle.chain_core.specs.Taking.{Taking}
pub use Rattle.chain_core.specs.Names.{reason_name as reason_text}
use Rattle.notes.specs.Says.{count_note}
use Rattle.program_octets.specs.Places.{from_to}
use Rattle.program_octets.specs.Rows.{Row, row}
use Rattle.program_octets.specs.Texts.{octets_text}
use Rattle.chain_core.specs.declared.reason.ChainReason.{ChainReason}
use Rattle.program_octets.specs.Codec.{Codec}

-- the octets of each block, one in a line
abbrev pub blocks_text : List Parts → List ℕ
blocks_text [] = []
blocks_text (b ∷ blocks) = encode_upper (spelling b) ++ (codes "\n" ++ blocks_text blocks)

-- this many blocks and their message as members of an object
abbrev pub joined_members : ℕ → List ℕ → List ℕ
joined_members blocks message = codes ",\"blocks\":" ++ (decimal blocks
    ++ (codes ",\"message\":\"" ++ (encode_upper message ++ codes "\"")))

-- a chain with these fields as members of an object
abbrev pub chain_members : List (List ℕ) → List ℕ
chain_members fields = joined_members (length fields) (message_of fields)

-- the fields of blocks in a row, of which the first block begins at this place: each is after NAD, PCB and LEN, and
-- before the LRC
abbrev pub field_ranges : ℕ → List (List ℕ) → List (ℕ × ℕ)
field_ranges at [] = []
field_ranges at (field ∷ fields) = (at + 3, at + 3 + length field) ∷ field_ranges (at + 3 + length field + 1) fields

abbrev pub count_row : ℕ → ℕ → Row
count_row blocks n = row (codes "blocks " ++ decimal blocks) [] (from_to 0 n)

-- the row of a message that these octets have
abbrev pub message_row : List ℕ → List (ℕ × ℕ) → Row
message_row message ranges = row (codes "message " ++ octets_text message) (count_note (length message)) ranges

-- this many blocks that take n octets, and their message, row by row
abbrev pub joined_rows : ℕ → List ℕ → List (ℕ × ℕ) → ℕ → List Row
joined_rows blocks message ranges n = count_row blocks n ∷ message_row message ranges ∷ []

-- a chain with these fields, row by row
abbrev pub chain_rows : List (List ℕ) → ℕ → List Row
chain_rows fields n = joined_rows (length fields) (message_of fields) (field_ranges 0 fields) n

-- the receiver r has taken the chain at the front of the octets b, which has n octets
pub record IsReceived (ifs : ℕ) (number : Number) (b : List ℕ) (r : Taking) (n : ℕ) : Type 0 where
  pub fields : List (List ℕ)
  pub accepted : Accepts self_ended (IsChain ifs number longest_message) b fields n
  pub count : r.blocks ≡ length fields
  pub joined : r.joined ≡ message_of fields
  pub done : r.done ≡ true
  pub none : r.refusal ≡ None

-- the codec for an information size and the number of the first block
abbrev pub chain_codec : ℕ → Number → Codec (List (List ℕ)) ChainReason
chain_codec ifs number = record {
  ending = self_ended;
  Spells = IsChain ifs number longest_message;
  IsReason =
      IsReason ifs number longest_message;
  name = reason_text;
  rows = chain_rows;
  members = chain_members;
}
