use Rattle.std.proofs.Common.{Ok, Err}
use Rattle.std.proofs.lemmas.Result.{err_from_is_err_and}
use Rattle.t1_core.specs.Came.{class_of}
use Rattle.t1_core.specs.Card.{takes, card_turn}
use Rattle.t1_core.specs.declared.turns.EncodedCardTurn.TheVariants as put
use Rattle.t1_core.proofs.Told.{tells}
use Rattle.line_core.proofs.Replying.{given, waits-for-host}
use Rattle.line_core.proofs.Rounds.{answers-refused, answers-sent, answers-replied, answers-refused-reply}
use Rattle.line_core.proofs.serving.answer_block.Goals as goal

pub returns-in_err-count-clause-answer : goal.returns-in_err-count-clause-answer
returns-in_err-count-clause-answer g c =
    let p = err_from_is_err_and c.from_residual.result c.from_residual.ensures.1 in
    rw (p.1, p.2) (answers-refused (g.H.Host.served c.args.host.now) _ _ _ _ c.received_into.new.out
    c.in_err-count.field-0.0 (given _ _ _ (Err c.in_err-count.field-0.0) c.in_err-count.ensures.wrote.turn)
    c.received_into.ensures.wrote.state)

pub returns-in-Send-clause-answer : goal.returns-in-Send-clause-answer
returns-in-Send-clause-answer g c =
    answers-sent (g.H.Host.served c.args.host.now) _ _ _ _ c.received_into.new.out c.in-Send.count
    (given _ _ _ (Ok (put.Send c.in-Send.count)) (rw c.in-Send.is at c.in_ok-count.ensures.wrote.turn))
    c.received_into.ensures.wrote.state

pub reply_to-requires-clause-waits : goal.reply_to-requires-clause-waits
reply_to-requires-clause-waits g c =
    let input = takes (class_of c.args.card.now.ifsc c.args.octets.now) in
    let asks = given _ _ _ (Ok put.Asked) (rw c.in-Asked.is at c.in_ok-count.ensures.wrote.turn) in
    rw c.received_into.ensures.wrote.state (waits-for-host c.args.card.now (card_turn c.args.card.now input)
    (λ next is. tells.host c.args.card.now next input is) asks)

pub returns-in_ok-reply_to-in-Asked-clause-answer : goal.returns-in_ok-reply_to-in-Asked-clause-answer
returns-in_ok-reply_to-in-Asked-clause-answer g c =
    let asks = given _ _ _ (Ok put.Asked) (rw c.in-Asked.is at c.in_ok-count.ensures.wrote.turn) in
    answers-replied (g.H.Host.served c.args.host.now) (g.H.Host.served c.reply_to.new.host) _ _ _
    c.received_into.new.self
    c.reply_to.new.card c.reply_to.new.out c.in_ok-reply_to-in-Asked.field-0 asks c.received_into.ensures.wrote.state
    c.in_ok-reply_to-in-Asked.ensures.reply

pub returns-in_err-reply_to-in-Asked-clause-answer : goal.returns-in_err-reply_to-in-Asked-clause-answer
returns-in_err-reply_to-in-Asked-clause-answer g c =
    let asks = given _ _ _ (Ok put.Asked) (rw c.in-Asked.is at c.in_ok-count.ensures.wrote.turn) in
    let p = err_from_is_err_and c.from_residual-in_err-reply_to-in-Asked.result
    c.from_residual-in_err-reply_to-in-Asked.ensures.1 in
    rw (p.1, p.2) (answers-refused-reply (g.H.Host.served c.args.host.now) (g.H.Host.served c.reply_to.new.host) _ _ _
    c.received_into.new.self c.reply_to.new.card c.reply_to.new.out c.in_err-reply_to-in-Asked.field-0.0 asks
    c.received_into.ensures.wrote.state c.in_err-reply_to-in-Asked.ensures.reply)
