-- What a reader of blocks has taken.
use Rattle.std.specs.Prelude.{◌≡◌, ◌⊎◌, ℕ, List, [], Option, None, IsSome}
use Rattle.octet_core.specs.Grammar.{Begins}
use Rattle.octet_core.specs.declared.stop.Refusal.{Refusal}
use Rattle.block_core.specs.Block.{Parts, IsBlock}
use Rattle.block_core.specs.declared.reason.BlockReason.{BlockReason}

-- The state of a reader: the information field size, the octets that it took, and the refusal that it repeats, which
-- is that of the last of them.
pub record Taking : Type 0 where
  pub ifs : ℕ
  pub taken : List ℕ
  pub refusal : Option (Refusal BlockReason)

-- a reader that has taken nothing
abbrev pub nothing_taken : ℕ → Taking
nothing_taken ifs = record { ifs = ifs; taken = []; refusal = None }

abbrev pub refusal_of : Taking → Option (Refusal BlockReason)
refusal_of r = r.refusal

-- a reader that refused nothing has taken the octets t, with which a block begins
pub record HasTaken (r : Taking) (t : List ℕ) : Type 0 where
  pub kept : r.refusal ≡ None
  pub is : r.taken ≡ t
  pub begun : Begins (IsBlock r.ifs) t

-- the reader takes more octets
abbrev pub IsOpen : Taking → Type 0
IsOpen r = (r.refusal ≡ None) × ((v : Parts) → IsBlock r.ifs v r.taken → ⊥)

-- the reader refused an octet, or has a whole block
abbrev pub IsClosed : Taking → Type 0
IsClosed r = IsSome r.refusal ⊎ ((v : Parts) × IsBlock r.ifs v r.taken)
