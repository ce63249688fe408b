use Rattle.std.proofs.Common.{take}
use Rattle.std.proofs.lemmas.Result.{err_from_is_err_and}
use Rattle.line_core.proofs.Rounds.{answers-block, fails-to-say, refuses, hears-nothing, fails-to-hear}
use Rattle.line_core.proofs.serving.serve_block.Goals as goal

pub returns-in_err-count-in-Ok-Octets : goal.returns-in_err-count-in-Ok-Octets
returns-in_err-count-in-Ok-Octets g c =
    let heard = rw c.in-Ok-Octets.field-0-is at c.in-Ok-Octets.ensures.said in
    let p = err_from_is_err_and c.from_residual.result c.from_residual.ensures.1 in
    rw (p.1, p.2) (refuses (g.L.CardLine.said c.args.line.now) (g.L.CardLine.said c.receive.new.self)
    (g.H.Host.served c.args.host.now) (g.H.Host.served c.answer_block.new.host) c.args.card.now
    c.answer_block.new.card (take c.in-Ok-Octets.count c.receive.new.room) c.answer_block.new.out
    c.in_err-count-in-Ok-Octets.field-0.0 heard c.in_err-count-in-Ok-Octets.ensures.answer)

pub returns-in-Ok : goal.returns-in-Ok
returns-in-Ok g c =
    let heard = rw c.in-Ok-Octets.field-0-is at c.in-Ok-Octets.ensures.said in
    answers-block (g.L.CardLine.said c.args.line.now) (g.L.CardLine.said c.receive.new.self)
    (g.L.CardLine.said c.send.new.self) (g.H.Host.served c.args.host.now) (g.H.Host.served c.answer_block.new.host)
    c.args.card.now c.answer_block.new.card (take c.in-Ok-Octets.count c.receive.new.room) c.answer_block.new.out
    c.in_ok-count-in-Ok-Octets.count heard c.in-Ok.ensures c.in_ok-count-in-Ok-Octets.ensures.answer

pub returns-in-Err-send : goal.returns-in-Err-send
returns-in-Err-send g c =
    let heard = rw c.in-Ok-Octets.field-0-is at c.in-Ok-Octets.ensures.said in
    fails-to-say (g.L.CardLine.said c.args.line.now) (g.L.CardLine.said c.receive.new.self)
    (g.L.CardLine.said c.send.new.self) (g.H.Host.served c.args.host.now) (g.H.Host.served c.answer_block.new.host)
    c.args.card.now c.answer_block.new.card (take c.in-Ok-Octets.count c.receive.new.room) c.answer_block.new.out
    c.in_ok-count-in-Ok-Octets.count c.in-Err-send.fault heard c.in-Err-send.ensures
    c.in_ok-count-in-Ok-Octets.ensures.answer

pub returns-in-Ok-Nothing : goal.returns-in-Ok-Nothing
returns-in-Ok-Nothing g c = hears-nothing (g.L.CardLine.said c.args.line.now) (g.L.CardLine.said c.receive.new.self)
    (g.H.Host.served c.args.host.now) c.args.card.now (rw c.in-Ok-Nothing.field-0-is at c.in-Ok-Nothing.ensures.said)

pub returns-in-Err : goal.returns-in-Err
returns-in-Err g c = fails-to-hear (g.L.CardLine.said c.args.line.now) (g.L.CardLine.said c.receive.new.self)
    (g.H.Host.served c.args.host.now) c.args.card.now c.in-Err.fault c.in-Err.ensures.said
