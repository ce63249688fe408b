use Rattle.program_octets.specs.ChainTexts.{chain_codec}
use Rattle.program_octets.proofs.Placing.{joined-shown}
use Rattle.program_octets.proofs.Telling.{is-shown}
use Rattle.program_octets.proofs.chain.ReceiverCodec.shown.Goals as goal

pub returns-clause-found : goal.returns-clause-found
returns-clause-found c =
    let r = c.in_ok-receiver.ensures.found in
    let joined = c.of-joined.ensures.joined r.fields r.count r.joined r.done r.none in
    is-shown c.args.noted c.args.layout c.args.expected.kind (chain_codec c.args.expected.ifs c.args.expected.number)
    c.args.octets.now r.fields c.in_ok-receiver.taken c.in_ok-of.field-0.taken _ r.accepted c.in_ok-of.ensures.taken
    (joined-shown c.args.noted c.args.layout c.args.expected.kind c.args.expected.ifs c.args.expected.number r.fields
    c.args.octets.now c.in_ok-receiver.taken c.of-joined.result.blocks c.of-joined.result.message.now
    c.of-joined.result.octets.now _ r.accepted joined.0 joined.1 c.of-joined.ensures.octets c.in_ok-of.ensures.text)
