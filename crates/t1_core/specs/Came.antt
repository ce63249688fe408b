-- What an end takes from the line (ISO/IEC 7816-3, clause 11.6).
use Rattle.std.specs.Prelude.{ℕ, ◌+◌, ◌≢◌, ◌⊎◌, List, [], length, take, drop, Bool, true, false, ◌&&◌, ◌==◌, nat_lt, if◌then◌else◌, Option, Some, None, slice_index}
use Rattle.octet_core.specs.Grammar.{self_ended, Accepts, Refuses}
use Rattle.block_core.specs.Block.{Parts, IsBlock, IsReason}
use Rattle.block_core.specs.Computed.{all_pcbs, pcb_among, suits}
use Rattle.octet_core.specs.Octets.{xor_of}
use Rattle.octet_core.specs.declared.stop.Stop.{Stop}
use Rattle.octet_core.specs.declared.stop.Stop.TheVariants.{At}
use Rattle.block_core.specs.declared.pcb.Number.{Number}
use Rattle.block_core.specs.declared.pcb.Number.TheVariants.{Zero, One}
use Rattle.block_core.specs.declared.pcb.Fault.{Fault}
use Rattle.block_core.specs.declared.pcb.S.{S}
use Rattle.block_core.specs.declared.pcb.Pcb.{Pcb}
use Rattle.block_core.specs.declared.pcb.Pcb.TheVariants.{Info, Ready, Request, Response}
use Rattle.block_core.specs.declared.reason.BlockReason.{BlockReason}
use Rattle.block_core.specs.declared.reason.BlockReason.TheVariants.{BadLrc}

-- What came: a whole block with node address 0; a block whose check octet is wrong; another invalid block; or nothing
-- within the waiting time, which only the terminal notices (error handling, clause 11.6).
pub data Came : Type 0 where
  got : (pcb : Pcb) (inf : List ℕ) → Came
  damaged : Came
  invalid : Came
  quiet : Came

-- What these octets, delivered by the line as one block, are to an end that takes information fields of at most size
-- octets. The verdict on them as a block decides. They are damaged if it is BadLrc, whatever follows the block. They
-- are invalid if octets are left over, or if the node address is another one.
abbrev pub IsClass : ℕ → List ℕ → Came → Type 0
IsClass size b (got pcb inf) = Accepts self_ended (IsBlock size) b (record { nad = 0; pcb = pcb; inf = inf }) (length b)
IsClass size b damaged = (place : ℕ) × Refuses self_ended (IsBlock size) (IsReason size) b (At place BadLrc)
IsClass size b invalid =
    ((stop : Stop BlockReason) × Refuses self_ended (IsBlock size) (IsReason size) b stop
    × ((place : ℕ) → stop ≢ At place BadLrc))
    ⊎ ((v : Parts) × (n : ℕ) × Accepts self_ended (IsBlock size) b v n × ((v.nad ≢ 0) ⊎ (n ≢ length b)))
IsClass size b quiet = ⊥

abbrev pub same : Number → Number → Bool
same Zero Zero = true
same Zero One = false
same One Zero = false
same One One = true

-- the size, or the multiple of the waiting time, that an S-block carries
abbrev pub carried : List ℕ → ℕ
carried inf = slice_index inf 0

-- The blocks that the ends send. All have node address 0.
abbrev pub info : Number → Bool → List ℕ → Parts
info number more inf = record { nad = 0; pcb = Info number more; inf = inf }

-- an R-block: it has the number of the I-block that its sender expects
abbrev pub ready : Number → Fault → Parts
ready number fault = record { nad = 0; pcb = Ready number fault; inf = [] }

abbrev pub request : S → List ℕ → Parts
request kind inf = record { nad = 0; pcb = Request kind; inf = inf }

abbrev pub response : S → List ℕ → Parts
response kind inf = record { nad = 0; pcb = Response kind; inf = inf }

-- The class, computed: b has the control byte pcb, and its third octet says that n octets are before the check octet
abbrev pub class_with : ℕ → List ℕ → ℕ → Option Pcb → Came
class_with size b n None = invalid
class_with size b n (Some pcb) =
    if nat_lt n (length b) && suits size pcb (drop 3 (take n b))
    then (if xor_of (take (n + 1) b) == 0
    then (if (length b == n + 1) && (slice_index b 0 == 0) then got pcb (drop 3 (take n b)) else invalid)
    else damaged)
    else invalid

-- what these octets are to an end that takes fields of at most size octets
abbrev pub class_of : ℕ → List ℕ → Came
class_of size b = class_with size b (slice_index b 2 + 3) (pcb_among all_pcbs (slice_index b 1))
