-- Data objects as C has them.
use Rattle.std.specs.Prelude.{ℕ, List}
use Rattle.tlv_core.specs.Tree.{Tree}
use Rattle.tlv_core.specs.Forest.{IsForest, largest}
use Rattle.tlv_core.specs.Tidy.{tidy}
use Rattle.c_lent.specs.Verdict.{Puts}
use Rattle.c_lent.specs.declared.verdict.Verdict.{Verdict}
use Rattle.tlv_core.specs.declared.reason.TlvReason.{TlvReason}
use Rattle.tlv_core.specs.declared.reason.TlvReason.TheVariants.{TooDeep, TagSecond, TagLong, LengthForm, Overrun, TooLong}
use Rattle.tlv_core.specs.declared.reason.DolReason.{DolReason}
use Rattle.tlv_core.specs.declared.reason.DolReason.TheVariants as dol

abbrev pub tlv_reason : TlvReason → ℕ
tlv_reason TooDeep = 1
tlv_reason TagSecond = 2
tlv_reason TagLong = 3
tlv_reason LengthForm = 4
tlv_reason Overrun = 5
tlv_reason TooLong = 6

abbrev pub dol_reason : DolReason → ℕ
dol_reason dol.TagZero = 1
dol_reason dol.TagSecond = 2
dol_reason dol.TagLong = 3

-- all the octets are a forest
abbrev pub IsSomeForest : ℕ → List ℕ → Type 0
IsSomeForest max octets = (t : Tree) × IsForest max t octets

-- all the octets are a forest, and its tidy form is put into the buffer
abbrev pub IsTidied : ℕ → List ℕ → List ℕ → List ℕ → Verdict → Type 0
IsTidied max octets old new v = (t : Tree) × IsForest max t octets × Puts (IsForest largest (tidy t)) old new v
