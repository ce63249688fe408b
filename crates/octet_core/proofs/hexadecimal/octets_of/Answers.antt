use Rattle.octet_core.proofs.HexadecimalLemmas.{digit-fault, odd-fault, never-sized}
use Rattle.octet_core.proofs.hexadecimal.octets_of.Goals as goal

pub returns-in-Err-InvalidHexCharacter-clause-fault : goal.returns-in-Err-InvalidHexCharacter-clause-fault
returns-in-Err-InvalidHexCharacter-clause-fault c =
    digit-fault c.args.text.now c.in-Err-InvalidHexCharacter.field-0-0 c.in-Err-InvalidHexCharacter.index
    (rw c.in-Err-InvalidHexCharacter.field-0-is at c.in-Err-InvalidHexCharacter.ensures.err)

pub returns-in-Err-OddLength-clause-fault : goal.returns-in-Err-OddLength-clause-fault
returns-in-Err-OddLength-clause-fault c =
    odd-fault c.args.text.now (rw c.in-Err-OddLength.field-0-is at c.in-Err-OddLength.ensures.err)

pub unreachable-requires : goal.unreachable-requires
unreachable-requires c = never-sized c.args.text.now
    (rw c.in-Err-InvalidStringLength.field-0-is at c.in-Err-InvalidStringLength.ensures.err)
