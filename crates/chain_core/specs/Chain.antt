-- Chains of I-blocks, and their encoding: ISO/IEC 7816-3, clause 11.6.
use Rattle.std.specs.Prelude.{◌≡◌, ◌≢◌, ℕ, zero, suc, ◌+◌, ◌<◌, ◌≤◌, List, [], ◌∷◌, ◌++◌, length, Bool, true, false, slice_index}
use Rattle.std.specs.List.{concat, AllByRecursion}
use Rattle.octet_core.specs.Octets.{AreOctets, xor_of}
use Rattle.octet_core.specs.Grammar.{IsFirst}
use Rattle.block_core.specs.declared.pcb.Number.{Number}
use Rattle.block_core.specs.declared.pcb.Pcb.{Pcb}
use Rattle.block_core.specs.declared.pcb.Pcb.TheVariants.{Info}
use Rattle.block_core.specs.Block as block
use Rattle.block_core.specs.Block.{Parts, other, pcb_octet, IsInfo}
use Rattle.chain_core.specs.declared.reason.ChainReason.{ChainReason}
use Rattle.chain_core.specs.declared.reason.ChainReason.TheVariants.{BadNad, BadPcb, NotInfo, BadSequence, TooManyBlocks, BadLen, OverIfs, TooLong, BadLrc}

-- the greatest number of blocks of a chain
abbrev pub most_blocks : ℕ
most_blocks = 131072

-- the greatest limit of a message, in octets
abbrev pub longest_message : ℕ
longest_message = 131072

-- the number of the block after n blocks, if the first has this number
abbrev pub number_after : Number → ℕ → Number
number_after number zero = number
number_after number (suc n) = number_after (other number) n

-- an I-block of a chain
abbrev pub chain_block : Number → Bool → List ℕ → Parts
chain_block number more field = record { nad = 0; pcb = Info number more; inf = field }

-- a block for each field: their numbers alternate, and all but the last say that more follow
abbrev pub chain_blocks : Number → List (List ℕ) → List Parts
chain_blocks number [] = []
chain_blocks number (field ∷ []) = chain_block number false field ∷ []
chain_blocks number (field ∷ next ∷ fields) =
    chain_block number true field ∷ chain_blocks (other number) (next ∷ fields)

-- a block for each field, all of which say that more follow
abbrev pub open_blocks : Number → List (List ℕ) → List Parts
open_blocks number [] = []
open_blocks number (field ∷ fields) = chain_block number true field ∷ open_blocks (other number) fields

-- the octets of blocks in a row
abbrev pub octets_of : List Parts → List ℕ
octets_of [] = []
octets_of (b ∷ blocks) = block.spelling b ++ octets_of blocks

abbrev pub spelling : Number → List (List ℕ) → List ℕ
spelling number fields = octets_of (chain_blocks number fields)

-- the message that the fields carry
abbrev pub message_of : List (List ℕ) → List ℕ
message_of fields = concat fields

-- the fields have an encoding: they have at most ifs octets each, and the message at most max
pub record IsProper (ifs max : ℕ) (fields : List (List ℕ)) : Type 0 where
  pub some : 0 < length fields
  pub few : length fields ≤ most_blocks
  pub sizes : AllByRecursion (λ field. length field ≤ ifs) fields
  pub octets : AreOctets (message_of fields)
  pub fits : length (message_of fields) ≤ max

-- the octets b encode the chain of these fields
pub record IsChain (ifs : ℕ) (number : Number) (max : ℕ) (fields : List (List ℕ)) (b : List ℕ) : Type 0 where
  pub proper : IsProper ifs max fields
  pub is : b ≡ spelling number fields

-- The first octets c of a block, after blocks with these fields, meet this line of the table of reasons (clauses 11.3
-- and 11.6): NAD isn't 00, the only address of a session here; PCB isn't one of the 18 octets; PCB isn't that of an
-- I-block; the number is that of the block before; the last block that a chain may have says that more follow, a limit
-- of this project; LEN is FF, which is reserved; LEN is over the information field size; the message gets longer than
-- the limit; the exclusive-or of all octets isn't 00.
abbrev pub MeetsInBlock : ℕ → Number → ℕ → List (List ℕ) → List ℕ → ChainReason → Type 0
MeetsInBlock ifs number max fields c BadNad = (length c ≡ 1) × (slice_index c 0 ≢ 0)
MeetsInBlock ifs number max fields c BadPcb = (length c ≡ 2) × ((p : Pcb) → pcb_octet p ≡ slice_index c 1 → ⊥)
MeetsInBlock ifs number max fields c NotInfo =
    (length c ≡ 2) × ((p : Pcb) → pcb_octet p ≡ slice_index c 1 → IsInfo p → ⊥)
MeetsInBlock ifs number max fields c BadSequence =
    (length c ≡ 2) × (more : Bool) × (pcb_octet (Info (other (number_after number (length fields))) more) ≡ slice_index
    c 1)
MeetsInBlock ifs number max fields c TooManyBlocks =
    (length c ≡ 2) × (length fields + 1 ≡ most_blocks) × (n : Number) × (pcb_octet (Info n true) ≡ slice_index c 1)
MeetsInBlock ifs number max fields c BadLen = (length c ≡ 3) × (slice_index c 2 ≡ 0xFF)
MeetsInBlock ifs number max fields c OverIfs = (length c ≡ 3) × (ifs < slice_index c 2)
MeetsInBlock ifs number max fields c TooLong = (length c ≡ 3) × (max < length (message_of fields) + slice_index c 2)
MeetsInBlock ifs number max fields c BadLrc = (length c ≡ slice_index c 2 + 4) × (xor_of c ≢ 0)

-- the octets b, whole blocks and the first octets of one more, meet this line of the table
abbrev pub Meets : ℕ → Number → ℕ → List ℕ → ChainReason → Type 0
Meets ifs number max b r = (fields : List (List ℕ)) × (c : List ℕ) × (b ≡ octets_of (open_blocks number fields) ++ c)
    × MeetsInBlock ifs number max fields c r

-- the lines of the table in their order, octet by octet of a block
abbrev pub all_reasons : List ChainReason
all_reasons = BadNad ∷ BadPcb ∷ NotInfo ∷ BadSequence ∷ TooManyBlocks ∷ BadLen ∷ OverIfs ∷ TooLong ∷ BadLrc ∷ []

-- the octets up to and including the refused one meet this line of the table, and no line before it
abbrev pub IsReason : ℕ → Number → ℕ → ChainReason → List ℕ → Type 0
IsReason ifs number max r b = IsFirst all_reasons (Meets ifs number max b) r
