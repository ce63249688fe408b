-- The names of reasons and faults: the names of their variants.
use Rattle.std.specs.Prelude.{ℕ, List, codes}
use Rattle.block_core.specs.declared.reason.BlockReason.{BlockReason}
use Rattle.block_core.specs.declared.reason.BlockReason.TheVariants.{BadPcb, BadLen, OverIfs, BadIfs, BadLrc}

abbrev pub reason_name : BlockReason → List ℕ
reason_name BadPcb = codes "BadPcb"
reason_name BadLen = codes "BadLen"
reason_name OverIfs = codes "OverIfs"
reason_name BadIfs = codes "BadIfs"
reason_name BadLrc = codes "BadLrc"
