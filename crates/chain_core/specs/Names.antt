-- The names of reasons and faults: the names of their variants.
use Rattle.std.specs.Prelude.{ℕ, List, ◌++◌, Option, Some, codes, decimal}
use Rattle.octet_core.specs.Stops.{stop_text}
use Rattle.chain_core.specs.declared.reading.ReadRefusal.{ReadRefusal}
use Rattle.chain_core.specs.declared.reading.ReadRefusal.TheVariants.{Read, Stop}
use Rattle.chain_core.specs.declared.reason.ChainReason.{ChainReason}
use Rattle.chain_core.specs.declared.reason.ChainReason.TheVariants.{BadNad, BadPcb, NotInfo, BadSequence, TooManyBlocks, BadLen, OverIfs, TooLong, BadLrc}

abbrev pub reason_name : ChainReason → List ℕ
reason_name BadNad = codes "BadNad"
reason_name BadPcb = codes "BadPcb"
reason_name NotInfo = codes "NotInfo"
reason_name BadSequence = codes "BadSequence"
reason_name TooManyBlocks = codes "TooManyBlocks"
reason_name BadLen = codes "BadLen"
reason_name OverIfs = codes "OverIfs"
reason_name TooLong = codes "TooLong"
reason_name BadLrc = codes "BadLrc"

abbrev pub read_refusal_text : ReadRefusal → Option (List ℕ)
read_refusal_text (Read taken) = Some (codes "Read after " ++ (decimal taken ++ codes " octets"))
read_refusal_text (Stop stop) = stop_text (λ reason. Some (reason_name reason)) stop
