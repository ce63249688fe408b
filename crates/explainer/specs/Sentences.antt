-- The sentence of an explanation for each reason: what was expected in place of the refused octet.
use Rattle.std.specs.Prelude.{ℕ, List, [], codes}
use Rattle.atr_core.specs.declared.reason.AtrReason.{AtrReason}
use Rattle.atr_core.specs.declared.reason.AtrReason.TheVariants as atr
use Rattle.block_core.specs.declared.reason.BlockReason.{BlockReason}
use Rattle.block_core.specs.declared.reason.BlockReason.TheVariants as block
use Rattle.chain_core.specs.declared.reason.ChainReason.{ChainReason}
use Rattle.chain_core.specs.declared.reason.ChainReason.TheVariants as chain
use Rattle.apdu_core.specs.declared.reason.CommandReason.{CommandReason}
use Rattle.apdu_core.specs.declared.reason.CommandReason.TheVariants as command
use Rattle.apdu_core.specs.declared.reason.ResponseReason.{ResponseReason}
use Rattle.apdu_core.specs.declared.reason.ResponseReason.TheVariants as response
use Rattle.tlv_core.specs.declared.reason.TlvReason.{TlvReason}
use Rattle.tlv_core.specs.declared.reason.TlvReason.TheVariants as tlv
use Rattle.tlv_core.specs.declared.reason.DolReason.{DolReason}
use Rattle.tlv_core.specs.declared.reason.DolReason.TheVariants as dol
use Rattle.program_words.specs.declared.given.Form.{Form}
use Rattle.program_words.specs.declared.given.Form.TheVariants as form
use Rattle.dumps.specs.declared.no_dump.DumpWrong.{DumpWrong}
use Rattle.dumps.specs.declared.no_dump.DumpWrong.TheVariants as dump
use Rattle.atr_core.specs.declared.params.ParamFault.{ParamFault}
use Rattle.atr_core.specs.declared.params.ParamFault.TheVariants as param

-- of an answer to reset
abbrev pub atr_sentence : AtrReason → List ℕ
atr_sentence atr.BadTs = codes "TS must be 3B (direct convention) or 3F (inverse convention)"
atr_sentence atr.TooLong = codes "an answer to reset has at most 33 octets, and the bytes announced so far exceed that"
atr_sentence atr.BadTck = codes "the exclusive-or of all octets from T0 to TCK must be 00"

-- of a block
abbrev pub block_sentence : BlockReason → List ℕ
block_sentence block.BadPcb = codes "no I-block, R-block or S-block has this PCB"
block_sentence block.BadLen =
    codes "LEN must be 00 to FE in an I-block, 00 in an R-block, RESYNCH and ABORT, 01 in IFS and WTX"
block_sentence block.OverIfs = codes "LEN of an I-block must not exceed the information field size (--ifs)"
block_sentence block.BadIfs = codes "the size in an IFS request or response must be 01 to FE"
block_sentence block.BadLrc = codes "the exclusive-or of all octets of the block must be 00"

-- of a chain
abbrev pub chain_sentence : ChainReason → List ℕ
chain_sentence chain.BadNad = codes "NAD of each block must be 00"
chain_sentence chain.BadPcb = codes "no I-block, R-block or S-block has this PCB"
chain_sentence chain.NotInfo = codes "a chain has only I-blocks, and this PCB is that of another block"
chain_sentence chain.BadSequence = codes "the block numbers must alternate, from 0 or from --number"
chain_sentence chain.TooManyBlocks = codes "a chain has at most 131072 blocks, and this one is followed by more"
chain_sentence chain.BadLen = codes "LEN must be 00 to FE"
chain_sentence chain.OverIfs = codes "LEN must not exceed the information field size (--ifs)"
chain_sentence chain.TooLong = codes "a message has at most 131072 octets"
chain_sentence chain.BadLrc = codes "the exclusive-or of all octets of the block must be 00"

-- of a command
abbrev pub command_sentence : CommandReason → List ℕ
command_sentence command.Trailing = codes "the length fields end the command before this octet"

-- of a response
abbrev pub response_sentence : ResponseReason → List ℕ
response_sentence response.TooLong = codes "a response has at most 65538 octets"

-- of a forest
abbrev pub tlv_sentence : TlvReason → List ℕ
tlv_sentence tlv.TooDeep = codes "objects nest at most 16 deep, and one more begins here"
tlv_sentence tlv.TagSecond = codes "in the second octet of a tag the low seven bits must not all be 0"
tlv_sentence tlv.TagLong = codes "a tag has at most three octets, so the third must be at most 7F"
tlv_sentence tlv.LengthForm = codes "a length field must begin with 00 to 7F or 81 to 84"
tlv_sentence tlv.Overrun = codes "this object needs more octets than the object around it has left"
tlv_sentence tlv.TooLong = codes "a forest of data objects has at most 1048576 octets"

-- of a data object list
abbrev pub dol_sentence : DolReason → List ℕ
dol_sentence dol.TagZero = codes "a tag must not begin with 00"
dol_sentence dol.TagSecond = codes "in the second octet of a tag the low seven bits must not all be 0"
dol_sentence dol.TagLong = codes "a tag has at most three octets, so the third must be at most 7F"

-- of a text that isn't a dump
abbrev pub dump_sentence : DumpWrong → List ℕ
dump_sentence dump.Offset = codes "an offset must have at least four hexadecimal digits"
dump_sentence dump.Place = codes "this offset must be the number of octets before it"
dump_sentence dump.Star = codes "a * must follow a row of 16 octets"
dump_sentence dump.Row = codes "expected octets in hexadecimal, or the characters that show them"
dump_sentence dump.End = codes "the last offset is missing, or the dump has too many octets"
dump_sentence dump.TwoWays =
    codes "these offsets fit two bases, which give different numbers of octets; od -v writes no *"

-- of an answer to reset from which no session can begin: what it lacks
abbrev pub lack_sentence : ParamFault → List ℕ
lack_sentence param.NoT1 = codes "has no TD that offers T=1"
lack_sentence param.ReservedIfsc = codes "gives the reserved value 00 or FF for IFSC, in the first TA for T=1"
lack_sentence param.Crc = codes "asks for the CRC, in the first TC for T=1, and scard has only the LRC"

-- how to write octets in a form of standard input, as a line; empty for the form octets, which any text has
abbrev pub form_text : Form → List ℕ
form_text form.Hex = codes "standard input: an octet is two hexadecimal digits, and blanks separate groups of octets\n"
form_text form.Octets = []
form_text form.Dump =
    codes "standard input: a dump is the whole output of xxd, hexdump -C, od -tx1, tshark -x, gdb, HxD or Format-Hex\n"
form_text form.Source = codes "standard input: write each octet as 0x3B, \\x3b, 3Bh or 3B, and all in the same way\n"
