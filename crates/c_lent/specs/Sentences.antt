-- A sentence on each reason, as C has it: the comment on the reason in include/scard.h. tools/gate/reasons compares
-- both.
use Rattle.std.specs.Prelude.{ℕ, ◌==◌, List, [], codes, if◌then◌else◌}
use Rattle.atr_core.specs.declared.reason.AtrReason.{AtrReason}
use Rattle.atr_core.specs.declared.reason.AtrReason.TheVariants as atr
use Rattle.block_core.specs.declared.reason.BlockReason.{BlockReason}
use Rattle.block_core.specs.declared.reason.BlockReason.TheVariants as block
use Rattle.chain_core.specs.declared.reason.ChainReason.{ChainReason}
use Rattle.chain_core.specs.declared.reason.ChainReason.TheVariants as chain
use Rattle.apdu_core.specs.declared.reason.CommandReason.{CommandReason}
use Rattle.apdu_core.specs.declared.reason.CommandReason.TheVariants as command
use Rattle.apdu_core.specs.declared.reason.ResponseReason.{ResponseReason}
use Rattle.apdu_core.specs.declared.reason.ResponseReason.TheVariants as response
use Rattle.tlv_core.specs.declared.reason.TlvReason.{TlvReason}
use Rattle.tlv_core.specs.declared.reason.TlvReason.TheVariants as tlv
use Rattle.tlv_core.specs.declared.reason.DolReason.{DolReason}
use Rattle.tlv_core.specs.declared.reason.DolReason.TheVariants as dol
use Rattle.c_lent.specs.declared.hexadecimal.HexReason.{HexReason}
use Rattle.c_lent.specs.declared.hexadecimal.HexReason.TheVariants as hex
use Rattle.c_lent.specs.Atr.{atr_reason}
use Rattle.c_lent.specs.Block.{block_reason}
use Rattle.c_lent.specs.Chain.{chain_reason}
use Rattle.c_lent.specs.Apdu.{command_reason, response_reason}
use Rattle.c_lent.specs.Tlv.{tlv_reason, dol_reason}
use Rattle.c_lent.specs.Hex.{hex_reason}
use Rattle.c_lent.specs.Names.{named, atr_reasons, block_reasons, chain_reasons, command_reasons, response_reasons, tlv_reasons, dol_reasons, hex_reasons}

abbrev pub atr_says : AtrReason → List ℕ
atr_says atr.BadTs = codes "TS is neither 3B nor 3F."
atr_says atr.TooLong = codes "With this TD, every possible answer has more than 33 octets."
atr_says atr.BadTck = codes "TCK is wrong."

abbrev pub atr_sentence : ℕ → List ℕ
atr_sentence = named atr_reason atr_says atr_reasons

abbrev pub block_says : BlockReason → List ℕ
block_says block.BadPcb = codes "PCB isn't one of the 18 valid values."
block_says block.BadLen = codes "LEN is FF, or wrong for this R- or S-block."
block_says block.OverIfs = codes "LEN of an I-block exceeds the information size."
block_says block.BadIfs = codes "The octet of an IFS request or response is 00 or FF."
block_says block.BadLrc = codes "LRC is wrong."

abbrev pub block_sentence : ℕ → List ℕ
block_sentence = named block_reason block_says block_reasons

abbrev pub chain_says : ChainReason → List ℕ
chain_says chain.BadNad = codes "NAD is not 00."
chain_says chain.BadPcb = codes "No block has this PCB."
chain_says chain.NotInfo = codes "The block is an R- or S-block."
chain_says chain.BadSequence = codes "The I-block has the wrong number."
chain_says chain.TooManyBlocks = codes "The last block that a chain may have has M=1."
chain_says chain.BadLen = codes "LEN is FF."
chain_says chain.OverIfs = codes "LEN exceeds the information size."
chain_says chain.TooLong = codes "The message would exceed its limit."
chain_says chain.BadLrc = codes "LRC is wrong."

abbrev pub chain_sentence : ℕ → List ℕ
chain_sentence = named chain_reason chain_says chain_reasons

abbrev pub command_says : CommandReason → List ℕ
command_says command.Trailing = codes "An octet follows the last one that the length fields allow."

abbrev pub command_sentence : ℕ → List ℕ
command_sentence = named command_reason command_says command_reasons

abbrev pub response_says : ResponseReason → List ℕ
response_says response.TooLong = codes "An octet follows the last one of the longest response."

abbrev pub response_sentence : ℕ → List ℕ
response_sentence = named response_reason response_says response_reasons

abbrev pub tlv_says : TlvReason → List ℕ
tlv_says tlv.TooDeep = codes "An object begins inside an object of depth 16."
tlv_says tlv.TagSecond = codes "The low seven bits of the second tag octet are all 0."
tlv_says tlv.TagLong = codes "The tag would need a fourth octet."
tlv_says tlv.LengthForm = codes "A length field begins with 80, or with 85 to FF."
tlv_says tlv.Overrun = codes "The octets still needed pass the end of the open object."
tlv_says tlv.TooLong = codes "The octets still needed pass the limit of the whole forest."

abbrev pub tlv_sentence : ℕ → List ℕ
tlv_sentence = named tlv_reason tlv_says tlv_reasons

abbrev pub dol_says : DolReason → List ℕ
dol_says dol.TagZero = codes "A tag begins with 00."
dol_says dol.TagSecond = codes "The low seven bits of the second tag octet are all 0."
dol_says dol.TagLong = codes "The tag would need a fourth octet."

abbrev pub dol_sentence : ℕ → List ℕ
dol_sentence = named dol_reason dol_says dol_reasons

abbrev pub hex_says : HexReason → List ℕ
hex_says hex.Digit = codes "A character isn't a hexadecimal digit."
hex_says hex.Odd = codes "The number of digits is odd."

abbrev pub hex_sentence : ℕ → List ℕ
hex_sentence = named hex_reason hex_says hex_reasons

-- the sentence on a reason by the numbers of its codec and its own, empty if there is none
abbrev pub reason_sentence : ℕ → ℕ → List ℕ
reason_sentence codec reason =
    if codec == 1 then atr_sentence reason
    else if codec == 2 then block_sentence reason
    else if codec == 3 then chain_sentence reason
    else if codec == 4 then command_sentence reason
    else if codec == 5 then response_sentence reason
    else if codec == 6 then tlv_sentence reason
    else if codec == 7 then dol_sentence reason
    else if codec == 8 then hex_sentence reason
    else []
