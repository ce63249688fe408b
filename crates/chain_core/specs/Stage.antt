-- Which octet of a chain's block comes next, and why its first three octets are refused.
use Rattle.std.specs.Prelude.{◌≡◌, ◌≢◌, ℕ, ◌+◌, ◌-◌, ◌<◌, ◌≤◌, Bool, true, false}
use Rattle.block_core.specs.Block.{other, pcb_octet, IsInfo}
use Rattle.block_core.specs.declared.pcb.Number.{Number}
use Rattle.block_core.specs.declared.pcb.Pcb.{Pcb}
use Rattle.block_core.specs.declared.pcb.Pcb.TheVariants.{Info}
use Rattle.chain_core.specs.declared.reason.ChainReason.{ChainReason}
use Rattle.chain_core.specs.declared.reason.ChainReason.TheVariants.{BadNad, BadPcb, NotInfo, BadSequence, TooManyBlocks, BadLen, OverIfs, TooLong}
use Rattle.chain_core.specs.declared.stage.BlockStage as stage
use Rattle.chain_core.specs.declared.stage.BlockStage.TheVariants as stages

-- what is wrong with a PCB, if this number comes next and the block may be the last
abbrev pub IsPcbFault : Number → Bool → ℕ → ChainReason → Type 0
IsPcbFault number last x BadPcb = (p : Pcb) → pcb_octet p ≡ x → ⊥
IsPcbFault number last x NotInfo = (p : Pcb) × (pcb_octet p ≡ x) × (IsInfo p → ⊥)
IsPcbFault number last x BadSequence = (more : Bool) × (pcb_octet (Info (other number) more) ≡ x)
IsPcbFault number last x TooManyBlocks = (last ≡ true) × (pcb_octet (Info number true) ≡ x)
IsPcbFault number last x _ = ⊥

-- what is wrong with a LEN
abbrev pub IsLenFault : ℕ → ℕ → ℕ → ChainReason → Type 0
IsLenFault ifs room x BadLen = x ≡ 255
IsLenFault ifs room x OverIfs = (x ≢ 255) × (ifs < x)
IsLenFault ifs room x TooLong = (x ≢ 255) × (x ≤ ifs) × (room < x)
IsLenFault ifs room x _ = ⊥

-- how many blocks follow at least
abbrev pub more_count : Bool → ℕ
more_count false = 0
more_count true = 1

-- one of the first three octets of a block comes next
abbrev pub IsHead : stage.BlockStage → Type 0
IsHead stages.Nad = Unit {0}
IsHead stages.Pcb = Unit {0}
IsHead (stages.Len more) = Unit {0}
IsHead (stages.Rest more len) = ⊥

-- what is wrong with one of the first three octets
abbrev pub IsHeadFault : Number → Bool → ℕ → ℕ → stage.BlockStage → ℕ → ChainReason → Type 0
IsHeadFault number last ifs room stages.Nad x r = (x ≢ 0) × (r ≡ BadNad)
IsHeadFault number last ifs room stages.Pcb x r = IsPcbFault number last x r
IsHeadFault number last ifs room (stages.Len more) x r = IsLenFault ifs room x r
IsHeadFault number last ifs room (stages.Rest more len) x r = ⊥

-- the stage after one of the first three octets
abbrev pub IsAfter : Number → Bool → ℕ → ℕ → stage.BlockStage → ℕ → stage.BlockStage → Type 0
IsAfter number last ifs room stages.Nad x next = (x ≡ 0) × (next ≡ stages.Pcb)
IsAfter number last ifs room stages.Pcb x next =
    (more : Bool) × (next ≡ stages.Len more) × (pcb_octet (Info number more) ≡ x) × (more ≡ true → last ≡ false)
IsAfter number last ifs room (stages.Len more) x next = (next ≡ stages.Rest more x) × (x ≤ ifs) × (x ≤ room)
IsAfter number last ifs room (stages.Rest more len) x next = ⊥

abbrev pub place_of : stage.BlockStage → ℕ
place_of stages.Nad = 0
place_of stages.Pcb = 1
place_of (stages.Len more) = 2
place_of (stages.Rest more len) = 3

-- where the octets that may be read now end: after the first three of the block, or after the block once LEN
-- has come
abbrev pub end_of : stage.BlockStage → ℕ
end_of stages.Nad = 3
end_of stages.Pcb = 3
end_of (stages.Len more) = 3
end_of (stages.Rest more len) = len + 4

-- how many octets of the field came, if a field is being read
abbrev pub came_of : stage.BlockStage → ℕ → ℕ
came_of stages.Nad came = 0
came_of stages.Pcb came = 0
came_of (stages.Len more) came = 0
came_of (stages.Rest more len) came = came

-- how many octets of the field are still to come
abbrev pub left_of : stage.BlockStage → ℕ → ℕ
left_of stages.Nad came = 0
left_of stages.Pcb came = 0
left_of (stages.Len more) came = 0
left_of (stages.Rest more len) came = len - came
