-- Blocks: ISO/IEC 7816-3, clause 11.3.
use Rattle.std.specs.Prelude.{ℕ, ◌+◌, ◌-◌, List, [], ◌∷◌, length}
use Rattle.std.specs.Option.{option_map_or}
use Rattle.block_core.specs.Block.{supervisory_len}
use Rattle.block_core.specs.Computed.{all_pcbs, pcb_among}
use Rattle.block_core.specs.declared.pcb.Pcb.{Pcb}
use Rattle.block_core.specs.declared.pcb.Pcb.TheVariants.{Info, Ready, Request, Response}

-- the least length of the field of a block of this kind: 11.3.2.3
abbrev pub len_least : Pcb → ℕ
len_least (Info number more) = 0
len_least (Ready number fault) = 0
len_least (Request about) = supervisory_len about
len_least (Response about) = supervisory_len about

-- the least length of the field of a block with this control octet
abbrev pub field_least : ℕ → ℕ
field_least octet = option_map_or len_least (pcb_among all_pcbs octet) 0

-- how many octets a block has by its LEN, or at least if LEN is missing: NAD, PCB, LEN, the field and the LRC
abbrev pub block_has : List ℕ → ℕ
block_has [] = 4
block_has (nad ∷ []) = 4
block_has (nad ∷ pcb ∷ []) = field_least pcb + 4
block_has (nad ∷ pcb ∷ len ∷ more) = len + 4

abbrev pub block_least : List ℕ → ℕ
block_least b = block_has b - length b
