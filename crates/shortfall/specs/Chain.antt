-- Chains of I-blocks: ISO/IEC 7816-3, clauses 11.3 and 11.6.
use Rattle.std.specs.Prelude.{ℕ, zero, suc, ◌+◌, ◌/◌, ◌%◌, List, [], ◌∷◌, Bool, true, false, ◌==◌, if◌then◌else◌}

-- bit M of the control octet of an I-block: 11.3.2.2
abbrev pub says_more : ℕ → Bool
says_more pcb = pcb / 32 % 2 == 1

-- after a block that says so, a block without a field at least: NAD, PCB, LEN and LRC
abbrev pub after_block : Bool → ℕ
after_block more = if more then 4 else 0

abbrev pub next_least : ℕ → ℕ
next_least pcb = after_block (says_more pcb)

-- After these octets. `left` octets of the block before them are still to come, and `more` is its bit M; before the
-- first block none is to come, and a block follows.
abbrev pub chain_from : ℕ → Bool → List ℕ → ℕ
chain_from zero false b = 0
chain_from zero true [] = 4
chain_from zero true (nad ∷ []) = 3
chain_from zero true (nad ∷ pcb ∷ []) = 2 + next_least pcb
chain_from zero true (nad ∷ pcb ∷ len ∷ b) = chain_from (len + 1) (says_more pcb) b
chain_from (suc left) more [] = suc left + after_block more
chain_from (suc left) more (x ∷ b) = chain_from left more b

abbrev pub chain_least : List ℕ → ℕ
chain_least b = chain_from 0 true b
