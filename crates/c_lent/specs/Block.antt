-- Blocks as C has them.
use Rattle.std.specs.Prelude.{◌≡◌, ◌⊎◌, ℕ, List, length}
use Rattle.octet_core.specs.Grammar.{self_ended, Accepts}
use Rattle.block_core.specs.Block.{Parts, IsBlock, Suits, pcb_octet, number_bit, fault_code, supervisory_code}
use Rattle.block_core.specs.declared.pcb.Pcb.{Pcb}
use Rattle.block_core.specs.declared.pcb.Pcb.TheVariants.{Info, Ready, Request, Response}
use Rattle.block_core.specs.declared.reason.BlockReason.{BlockReason}
use Rattle.block_core.specs.declared.reason.BlockReason.TheVariants.{BadPcb, BadLen, OverIfs, BadIfs, BadLrc}
use Rattle.c_lent.specs.declared.verdict.Verdict.{Verdict}
use Rattle.c_lent.specs.declared.block.CBlock.{CBlock}
use Rattle.c_lent.specs.declared.block.CPcb.{CPcb}
use Rattle.c_lent.specs.Apdu.{mark_of}

abbrev pub block_reason : BlockReason → ℕ
block_reason BadPcb = 1
block_reason BadLen = 2
block_reason OverIfs = 3
block_reason BadIfs = 4
block_reason BadLrc = 5

-- the struct of a block, with its information field at its place in the octets
abbrev pub block_seen : Parts → CBlock
block_seen v = record { nad = v.nad; pcb = pcb_octet v.pcb; inf_place = 3; inf_len = length v.inf }

-- the octets begin with the block in the struct
abbrev pub IsDecoded : ℕ → List ℕ → Verdict → CBlock → Type 0
IsDecoded ifs octets v out = (block : Parts) × Accepts self_ended (IsBlock ifs) octets block v.place
    × (out ≡ block_seen block)

-- no block with this control octet can carry the field
abbrev pub IsUnfit : ℕ → List ℕ → Type 0
IsUnfit octet inf = (kind : Pcb) → pcb_octet kind ≡ octet → Suits 254 kind inf → ⊥

-- the block with these fields
pub record IsOf (address octet : ℕ) (field : List ℕ) (v : Parts) : Type 0 where
  pub nad : v.nad ≡ address
  pub pcb : pcb_octet v.pcb ≡ octet
  pub inf : v.inf ≡ field

-- the struct of a PCB's parts: 11.3.2.2; what a kind of block lacks is 0
abbrev pub pcb_shown : Pcb → CPcb
pcb_shown (Info number more) =
    record { kind = 1; number = number_bit number 1; more = mark_of more; fault = 0; about = 0 }
pcb_shown (Ready number fault) =
    record { kind = 2; number = number_bit number 1; more = 0; fault = fault_code fault; about = 0 }
pcb_shown (Request s) = record { kind = 3; number = 0; more = 0; fault = 0; about = supervisory_code s }
pcb_shown (Response s) = record { kind = 4; number = 0; more = 0; fault = 0; about = supervisory_code s }

-- the struct for an octet that is no PCB
abbrev pub no_pcb : CPcb
no_pcb = record { kind = 0; number = 0; more = 0; fault = 0; about = 0 }

-- the struct has the parts of this control octet, or no block has it
abbrev pub ShowsPcb : ℕ → CPcb → Type 0
ShowsPcb octet out = ((p : Pcb) × (pcb_octet p ≡ octet) × (out ≡ pcb_shown p))
    ⊎ (((p : Pcb) → pcb_octet p ≡ octet → ⊥) × (out ≡ no_pcb))
