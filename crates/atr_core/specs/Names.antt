-- The names of reasons and faults: the names of their variants.
use Rattle.std.specs.Prelude.{ℕ, List, codes}
use Rattle.atr_core.specs.declared.reason.AtrReason.{AtrReason}
use Rattle.atr_core.specs.declared.reason.AtrReason.TheVariants as own
use Rattle.atr_core.specs.declared.params.ParamFault.{ParamFault}
use Rattle.atr_core.specs.declared.params.ParamFault.TheVariants as param

abbrev pub reason_name : AtrReason → List ℕ
reason_name own.BadTs = codes "BadTs"
reason_name own.TooLong = codes "TooLong"
reason_name own.BadTck = codes "BadTck"

abbrev pub param_fault_name : ParamFault → List ℕ
param_fault_name param.NoT1 = codes "NoT1"
param_fault_name param.ReservedIfsc = codes "ReservedIfsc"
param_fault_name param.Crc = codes "Crc"
