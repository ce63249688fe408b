-- The names of reasons and faults: the names of their variants.
use Rattle.std.specs.Prelude.{ℕ, List, codes}
use Rattle.tlv_core.specs.declared.reason.TlvReason.{TlvReason}
use Rattle.tlv_core.specs.declared.reason.TlvReason.TheVariants as tlv
use Rattle.tlv_core.specs.declared.reason.DolReason.{DolReason}
use Rattle.tlv_core.specs.declared.reason.DolReason.TheVariants as dol
use Rattle.tlv_core.specs.declared.forest.Improper.{Improper}
use Rattle.tlv_core.specs.declared.forest.Improper.TheVariants as improper
use Rattle.tlv_core.specs.declared.filling.FillFault.{FillFault}
use Rattle.tlv_core.specs.declared.filling.FillFault.TheVariants as fill

-- the name of a reason why octets aren't a forest
abbrev pub reason_name : TlvReason → List ℕ
reason_name tlv.TooDeep = codes "TooDeep"
reason_name tlv.TagSecond = codes "TagSecond"
reason_name tlv.TagLong = codes "TagLong"
reason_name tlv.LengthForm = codes "LengthForm"
reason_name tlv.Overrun = codes "Overrun"
reason_name tlv.TooLong = codes "TooLong"

-- the name of a reason why octets aren't a data object list
abbrev pub dol_reason_name : DolReason → List ℕ
dol_reason_name dol.TagZero = codes "TagZero"
dol_reason_name dol.TagSecond = codes "TagSecond"
dol_reason_name dol.TagLong = codes "TagLong"

-- the name of what is improper in a list of nodes
abbrev pub improper_name : Improper → List ℕ
improper_name improper.Depth = codes "Depth"
improper_name improper.Tag = codes "Tag"
improper_name improper.Form = codes "Form"
improper_name improper.Size = codes "Size"

-- what is written if a list isn't filled
abbrev pub fill_fault_text : FillFault → List ℕ
fill_fault_text fill.Duplicate = codes "Duplicate"
fill_fault_text fill.Memory = codes "memory"
