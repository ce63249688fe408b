use Rattle.std.proofs.Common.{refl}
use Rattle.program.specs.ExchangeTexts.{agrees, differs}
use Rattle.program.proofs.ExchangeNotes.{differs-at}
use Rattle.program.proofs.exchange.agreement.Goals as goal

pub returns-in_ok-agreed-in-Ok : goal.returns-in_ok-agreed-in-Ok
returns-in_ok-agreed-in-Ok c = agrees (rw c.in-Ok.is at c.requires)
    (c.in_ok-agreed-in-Ok.ensures c.args.exchange.now (rw (c.get.ensures, c.lines.ensures.lines) refl)) refl

pub returns-in_ok-differing-in-Err-Differs : goal.returns-in_ok-differing-in-Err-Differs
returns-in_ok-differing-in-Err-Differs c =
    differs c.in-Err-Differs.line c.in-Err-Differs.gives
    (differs-at c.args.outcome.now c.args.exchange.now c.args.side c.in-Err-Differs.field-0 c.in-Err-Differs.line
    c.in-Err-Differs.gives
    c.in-Err-Differs.is (rw c.in-Err-Differs.is at c.in-Err-Differs.field-0-is) c.requires)
    (rw c.get-in-Err-Differs.ensures at c.in_ok-differing-in-Err-Differs.ensures) refl
