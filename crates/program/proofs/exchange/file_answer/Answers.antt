use Rattle.std.proofs.lemmas.Result.{IfOk-weaker}
use Rattle.program.proofs.ExchangeNotes.{of-exchange}
use Rattle.program.proofs.exchange.file_answer.Goals as goal

pub returns-in-Ok : goal.returns-in-Ok
returns-in-Ok c = IfOk-weaker c.exchange_answer.result _ _
    (λ made h. of-exchange c.args.task c.args.file.now c.in-Ok.exchange made c.in-Ok.ensures.said h)
    c.exchange_answer.ensures
