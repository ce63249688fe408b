use Rattle.t1_core.specs.CardViews.{card_held}
use Rattle.session_core.proofs.Ends.{card-quiet}
use Rattle.session_core.proofs.card.proceed.Goals as goal

pub returns-in-Quiet-clause-step : goal.returns-in-Quiet-clause-step
returns-in-Quiet-clause-step c = λ step rules g.
    card-quiet step rules (card_held c.args.end.now c.args.command.now c.args.reply.now) c.args.takes_short
    c.args.granted.now c.args.now c.args.line.now c.listen.new.self c.args.own.now c.args.out.now c.listen.result
    c.of.result (rw c.in-Quiet.is at g) c.listen.ensures c.of.ensures
