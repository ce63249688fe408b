use Rattle.program_octets.specs.BlockTexts.{block_codec}
use Rattle.program_octets.proofs.Placing.{lrc-shown}
use Rattle.program_octets.proofs.Telling.{is-shown}
use Rattle.program_octets.proofs.block.BlockCodec.shown.Goals as goal

pub returns-clause-found : goal.returns-clause-found
returns-clause-found c =
    is-shown c.args.noted c.args.layout c.args.expected.kind (block_codec c.args.expected.ifs) c.args.octets.now
    c.in_ok-block.block c.in_ok-block.taken c.in_ok-of.field-0.taken _
    (rw c.get.ensures.value at c.in_ok-block.ensures.found) c.in_ok-of.ensures.taken
    (lrc-shown c.args.noted c.args.layout c.args.expected.kind c.args.expected.ifs c.in_ok-block.block
    c.in_ok-block.taken c.last-lrc.result _ c.last-lrc.ensures c.in_ok-of.ensures.text)
