use Rattle.program.proofs.ExchangeNotes.{of-both}
use Rattle.program.proofs.exchange.replayed_at.Goals as goal

pub returns-in_ok-account-in-Both : goal.returns-in_ok-account-in-Both
returns-in_ok-account-in-Both c =
    rw c.in-Both.is (of-both c.args.layout c.args.file.now c.args.exchange.now c.in_ok-terminal-in-Both.terminal
    c.in_ok-card-in-Both.card
    (record { account = c.in_ok-account-in-Both.account; explanation = c.joined-explanation.result })
    c.in_ok-terminal-in-Both.ensures c.in_ok-card-in-Both.ensures c.in_ok-account-in-Both.ensures.text
    c.in_ok-account-in-Both.ensures.status c.joined-explanation.ensures)
