use Rattle.std.proofs.Common.{Err, ap}
use Rattle.std.proofs.lemmas.Result.{err_from_is_err_and}
use Rattle.apdu_core.proofs.Received.{received, not-received, no-chain}
use Rattle.apdu_core.proofs.receiving.read.Goals as goal

pub returns-in_err-read_chain-clause-fault : goal.returns-in_err-read_chain-clause-fault
returns-in_err-read_chain-clause-fault g c =
    let p = err_from_is_err_and c.from_residual-in_err-read_chain.result c.from_residual-in_err-read_chain.ensures.1 in
    rw (p.1, p.2) (no-chain c.args.limit c.args.ifs c.args.number g.R.Source.remaining g.R.Source.failures
    c.args.reader.now
    c.read_chain.new.reader c.in_ok-receiver.receiver c.read_chain.new.receiver g.A.Apdu.spells g.A.Apdu.reason
    c.in_err-read_chain.field-0.0
    c.in_ok-receiver.ensures c.in_err-read_chain.ensures.reads c.in_err-read_chain.ensures.counted
    c.in_err-read_chain.ensures.kept)

pub returns-in_err-apdu-clause-fault : goal.returns-in_err-apdu-clause-fault
returns-in_err-apdu-clause-fault g c =
    let p = err_from_is_err_and c.from_residual-in_err-apdu.result c.from_residual-in_err-apdu.ensures.1 in
    let message = rw c.unwrap.ensures at c.message.ensures.done in
    rw (p.1, p.2) (not-received c.args.limit c.args.ifs c.args.number g.R.Source.remaining g.R.Source.failures
    c.args.reader.now c.read_chain.new.reader c.in_ok-receiver.receiver c.read_chain.new.receiver g.A.Apdu.spells
    g.A.Apdu.reason
    c.unwrap.result.now c.in_err-apdu.field-0.0
    c.in_ok-receiver.ensures c.in_ok-read_chain.ensures.reads c.in_ok-read_chain.ensures.counted message.2
    c.in_err-apdu.ensures.refused (λ e. c.in_err-apdu.ensures.memory (ap Err e)))

pub returns-clause-received : goal.returns-clause-received
returns-clause-received g c =
    let message = rw c.unwrap.ensures at c.message.ensures.done in
    received c.args.limit c.args.ifs c.args.number g.R.Source.remaining g.R.Source.failures c.args.reader.now
    c.read_chain.new.reader c.in_ok-receiver.receiver c.read_chain.new.receiver g.A.Apdu.spells c.unwrap.result.now
    c.in_ok-apdu.apdu
    c.in_ok-receiver.ensures c.in_ok-read_chain.ensures.reads c.in_ok-read_chain.ensures.counted message.2
    c.in_ok-apdu.ensures.found
