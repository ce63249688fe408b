-- The names of statuses, turns, reasons, classes, shapes and S-blocks, as C has them.
use Rattle.std.specs.Prelude.{ℕ, ◌==◌, List, [], ◌∷◌, ◌++◌, if◌then◌else◌, codes}
use Rattle.atr_core.specs.declared.reason.AtrReason.{AtrReason}
use Rattle.atr_core.specs.declared.reason.AtrReason.TheVariants as atr
use Rattle.atr_core.specs.Names as atr_names
use Rattle.block_core.specs.declared.reason.BlockReason.{BlockReason}
use Rattle.block_core.specs.declared.reason.BlockReason.TheVariants as block
use Rattle.block_core.specs.Names as block_names
use Rattle.chain_core.specs.declared.reason.ChainReason.{ChainReason}
use Rattle.chain_core.specs.declared.reason.ChainReason.TheVariants as chain
use Rattle.chain_core.specs.Names as chain_names
use Rattle.apdu_core.specs.declared.reason.CommandReason.{CommandReason}
use Rattle.apdu_core.specs.declared.reason.CommandReason.TheVariants as command
use Rattle.apdu_core.specs.declared.reason.ResponseReason.{ResponseReason}
use Rattle.apdu_core.specs.declared.reason.ResponseReason.TheVariants as response
use Rattle.apdu_core.specs.Names as apdu_names
use Rattle.apdu_core.specs.declared.status.StatusClass.{StatusClass}
use Rattle.apdu_core.specs.declared.status.StatusClass.TheVariants as classes
use Rattle.apdu_core.specs.declared.command.Shape.{Shape}
use Rattle.apdu_core.specs.declared.command.Shape.TheVariants as shapes
use Rattle.block_core.specs.Block.{supervisory_code}
use Rattle.block_core.specs.declared.pcb.S.{S}
use Rattle.block_core.specs.declared.pcb.S.TheVariants as subjects
use Rattle.tlv_core.specs.declared.reason.TlvReason.{TlvReason}
use Rattle.tlv_core.specs.declared.reason.TlvReason.TheVariants as tlv
use Rattle.tlv_core.specs.declared.reason.DolReason.{DolReason}
use Rattle.tlv_core.specs.declared.reason.DolReason.TheVariants as dol
use Rattle.tlv_core.specs.Names as tlv_names
use Rattle.c_lent.specs.Atr.{atr_reason}
use Rattle.c_lent.specs.Block.{block_reason}
use Rattle.c_lent.specs.Chain.{chain_reason}
use Rattle.c_lent.specs.Apdu.{command_reason, response_reason, class_number, shape_number}
use Rattle.c_lent.specs.Tlv.{tlv_reason, dol_reason}
use Rattle.c_lent.specs.Hex.{hex_reason}
use Rattle.c_lent.specs.declared.hexadecimal.HexReason.{HexReason}
use Rattle.c_lent.specs.declared.hexadecimal.HexReason.TheVariants as hex

-- a text of C: a 0 comes after it
abbrev pub ended : List ℕ → List ℕ
ended text = text ++ 0 ∷ []

-- the name of a status
abbrev pub status_name : ℕ → List ℕ
status_name status =
    if status == 0 then codes "OK"
    else if status == 1 then codes "SHORT"
    else if status == 2 then codes "AT"
    else if status == 3 then codes "MEMORY"
    else if status == 4 then codes "ARGUMENT"
    else if status == 5 then codes "DUPLICATE"
    else if status == 6 then codes "MORE"
    else []

-- the name of the kind of a turn, or of what a session does next
abbrev pub turn_name : ℕ → List ℕ
turn_name kind =
    if kind == 0 then codes "SEND"
    else if kind == 1 then codes "DONE"
    else if kind == 2 then codes "IFS_SET"
    else if kind == 3 then codes "GIVEN_UP"
    else if kind == 4 then codes "DEAD"
    else if kind == 16 then codes "REFUSED_DEAD"
    else if kind == 17 then codes "REFUSED_BUSY"
    else if kind == 18 then codes "REFUSED_TOO_LONG"
    else if kind == 19 then codes "REFUSED_RESERVED"
    else if kind == 20 then codes "REFUSED_IDLE"
    else if kind == 21 then codes "REFUSED_ORDER"
    else if kind == 32 then codes "NO_END"
    else if kind == 33 then codes "NO_ROOM"
    else if kind == 64 then codes "SESSION_FAILED"
    else if kind == 65 then codes "SESSION_USED_UP"
    else if kind == 66 then codes "SESSION_NO_STATUS"
    else if kind == 67 then codes "SESSION_ECHO"
    else if kind == 68 then codes "SESSION_WAIT"
    else []

-- what is said of the first of these that has this number, empty if none has it
abbrev pub named : {R : Type 0} → (R → ℕ) → (R → List ℕ) → List R → ℕ → List ℕ
named number says [] n = []
named number says (one ∷ rest) n = if n == number one then says one else named number says rest n

-- the word for a class of status bytes
abbrev pub class_word : StatusClass → List ℕ
class_word classes.Normal = codes "NORMAL"
class_word classes.Warning = codes "WARNING"
class_word classes.Execution = codes "EXECUTION"
class_word classes.Checking = codes "CHECKING"
class_word classes.Proprietary = codes "PROPRIETARY"
class_word classes.Invalid = codes "INVALID"

-- the name of a class of status bytes
abbrev pub class_name : ℕ → List ℕ
class_name = named class_number class_word (classes.Normal ∷ classes.Warning ∷ classes.Execution ∷ classes.Checking
    ∷ classes.Proprietary ∷ classes.Invalid ∷ [])

-- the word for the shape of a command, by its case (ISO/IEC 7816-3, 12.1)
abbrev pub shape_word : Shape → List ℕ
shape_word shapes.Empty = codes "CASE_1"
shape_word shapes.ShortLe = codes "CASE_2_SHORT"
shape_word shapes.ShortPart = codes "CASE_3_SHORT"
shape_word shapes.ShortBoth = codes "CASE_4_SHORT"
shape_word shapes.LongLe = codes "CASE_2_LONG"
shape_word shapes.LongPart = codes "CASE_3_LONG"
shape_word shapes.LongBoth = codes "CASE_4_LONG"

-- the name of the shape of a command
abbrev pub shape_name : ℕ → List ℕ
shape_name = named shape_number shape_word (shapes.Empty ∷ shapes.ShortLe ∷ shapes.ShortPart ∷ shapes.ShortBoth
    ∷ shapes.LongLe ∷ shapes.LongPart ∷ shapes.LongBoth ∷ [])

-- the word for the subject of an S-block (ISO/IEC 7816-3, 11.3.2.2)
abbrev pub about_word : S → List ℕ
about_word subjects.Resynch = codes "RESYNCH"
about_word subjects.Ifs = codes "IFS"
about_word subjects.Abort = codes "ABORT"
about_word subjects.Wtx = codes "WTX"

-- the name of the subject of an S-block
abbrev pub about_name : ℕ → List ℕ
about_name = named supervisory_code about_word (subjects.Resynch ∷ subjects.Ifs ∷ subjects.Abort ∷ subjects.Wtx ∷ [])

abbrev pub atr_reasons : List AtrReason
atr_reasons = atr.BadTs ∷ atr.TooLong ∷ atr.BadTck ∷ []

abbrev pub atr_name : ℕ → List ℕ
atr_name = named atr_reason atr_names.reason_name atr_reasons

abbrev pub block_reasons : List BlockReason
block_reasons = block.BadPcb ∷ block.BadLen ∷ block.OverIfs ∷ block.BadIfs ∷ block.BadLrc ∷ []

abbrev pub block_name : ℕ → List ℕ
block_name = named block_reason block_names.reason_name block_reasons

abbrev pub chain_reasons : List ChainReason
chain_reasons = chain.BadNad ∷ chain.BadPcb ∷ chain.NotInfo ∷ chain.BadSequence ∷ chain.TooManyBlocks
    ∷ chain.BadLen ∷ chain.OverIfs ∷ chain.TooLong ∷ chain.BadLrc ∷ []

abbrev pub chain_name : ℕ → List ℕ
chain_name = named chain_reason chain_names.reason_name chain_reasons

abbrev pub command_reasons : List CommandReason
command_reasons = command.Trailing ∷ []

abbrev pub command_name : ℕ → List ℕ
command_name = named command_reason apdu_names.command_reason_name command_reasons

abbrev pub response_reasons : List ResponseReason
response_reasons = response.TooLong ∷ []

abbrev pub response_name : ℕ → List ℕ
response_name = named response_reason apdu_names.response_reason_name response_reasons

abbrev pub tlv_reasons : List TlvReason
tlv_reasons = tlv.TooDeep ∷ tlv.TagSecond ∷ tlv.TagLong ∷ tlv.LengthForm ∷ tlv.Overrun ∷ tlv.TooLong ∷ []

abbrev pub tlv_name : ℕ → List ℕ
tlv_name = named tlv_reason tlv_names.reason_name tlv_reasons

abbrev pub dol_reasons : List DolReason
dol_reasons = dol.TagZero ∷ dol.TagSecond ∷ dol.TagLong ∷ []

abbrev pub dol_name : ℕ → List ℕ
dol_name = named dol_reason tlv_names.dol_reason_name dol_reasons

abbrev pub hex_reason_name : HexReason → List ℕ
hex_reason_name hex.Digit = codes "Digit"
hex_reason_name hex.Odd = codes "Odd"

abbrev pub hex_reasons : List HexReason
hex_reasons = hex.Digit ∷ hex.Odd ∷ []

abbrev pub hex_name : ℕ → List ℕ
hex_name = named hex_reason hex_reason_name hex_reasons

-- the name of a reason by the numbers of its codec and its own
abbrev pub reason_name : ℕ → ℕ → List ℕ
reason_name codec reason =
    if codec == 1 then atr_name reason
    else if codec == 2 then block_name reason
    else if codec == 3 then chain_name reason
    else if codec == 4 then command_name reason
    else if codec == 5 then response_name reason
    else if codec == 6 then tlv_name reason
    else if codec == 7 then dol_name reason
    else if codec == 8 then hex_name reason
    else []
