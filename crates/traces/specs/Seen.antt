-- What the octets of a block are, for either end.
use Rattle.std.specs.Prelude.{ℕ, List, Option, Some, None}
use Rattle.block_core.specs.Block.{Parts}
use Rattle.t1_core.specs.Came.{Came, got, damaged, invalid, quiet, class_of}
use Rattle.block_core.specs.declared.side.Side.{Side}
use Rattle.traces.specs.declared.trace.Item.{Item}
use Rattle.traces.specs.declared.trace.Item.TheVariants.{Block, Quiet, Moment}

abbrev pub block_of : Came → Option Parts
block_of (got pcb inf) = Some (record { nad = 0; pcb = pcb; inf = inf })
block_of damaged = None
block_of invalid = None
block_of quiet = None

-- the block that octets are, at the largest size of information fields
unfoldable pub seen : List ℕ → Option Parts
seen octets = block_of (class_of 254 octets)

abbrev pub from_side : Side → Option Parts → Option (Side × Parts)
from_side side None = None
from_side side (Some block) = Some (side, block)

-- the block of an item, and the end that sent it
abbrev pub block_in : Item → Option (Side × Parts)
block_in (Block from octets lost) = from_side from (seen octets)
block_in Quiet = None
block_in (Moment moment) = None
