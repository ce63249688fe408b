-- How a message is cut into the fields of a chain: ISO/IEC 7816-3, clause 11.6.
use Rattle.std.specs.Prelude.{◌≡◌, ℕ, zero, suc, ◌-◌, ◌/◌, ◌<◌, ◌≤◌, List, [], ◌∷◌, length, take, drop, nat_lt, Option, None, Some}
use denote.Ref.{Bor}
use Rattle.block_core.specs.declared.pcb.Number.{Number}
use Rattle.block_core.specs.Block.{Parts}
use Rattle.chain_core.specs.Chain.{message_of, chain_block, chain_blocks}

-- the first `count` fields of `size` octets, and then the rest
abbrev pub pieces : ℕ → ℕ → List ℕ → List (List ℕ)
pieces size zero message = message ∷ []
pieces size (suc count) message = take size message ∷ pieces size count (drop size message)

-- the fields of a message: all but the last have size octets, and only that of the empty message is empty
abbrev pub cut_of : ℕ → List ℕ → List (List ℕ)
cut_of size message = pieces size ((length message - 1) / size) message

-- all fields but the last have `size` octets, and the last has at least one
abbrev pub IsFull : ℕ → List (List ℕ) → Type 0
IsFull size [] = ⊥
IsFull size (field ∷ []) = (0 < length field) × (length field ≤ size)
IsFull size (field ∷ next ∷ fields) = (length field ≡ size) × IsFull size (next ∷ fields)

-- the fields are those into which the message is cut
abbrev pub IsCut : ℕ → List ℕ → List (List ℕ) → Type 0
IsCut size [] fields = fields ≡ [] ∷ []
IsCut size (x ∷ message) fields = (message_of fields ≡ x ∷ message) × IsFull size fields

-- the first block of the chain into which a message is cut
abbrev pub leading_block : ℕ → Number → List ℕ → Parts
leading_block size number message = chain_block number (nat_lt size (length message)) (take size message)

-- the blocks for the rest of a message, none if all were returned
abbrev pub blocks_left : ℕ → Number → Option (Bor (List ℕ)) → List Parts
blocks_left size number None = []
blocks_left size number (Some rest) = chain_blocks number (cut_of size rest.now)
