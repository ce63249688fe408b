use Rattle.std.proofs.lemmas.Result.{err_from_is_err_and}
use Rattle.exchange_text.proofs.Sequel.{line-fault, next-sequel, unless-ok}
use Rattle.exchange_text.specs.Reading.{line_at}
use Rattle.exchange_text.proofs.reading.lines_said.Goals as goal

pub returns-in_err-line-clause-said : goal.returns-in_err-line-clause-said
returns-in_err-line-clause-said c =
    let p = err_from_is_err_and c.from_residual.result c.from_residual.ensures.1 in
    rw (p.1, p.2) (
    line-fault c.args.version c.args.text.now c.loop-line.lines.items c.loop-line.number c.loop-line.least
    c.loop-line.rest.now
    c.in-Some.line.now c.in-Some.after.now c.in_err-line.field-0.0 c.loop-line.invariant c.in-Some.ensures.parts
    c.in_err-line.ensures)

pub loop-line-preserved : goal.loop-line-preserved
loop-line-preserved c =
    let said = line_at c.args.version c.loop-line.number c.loop-line.least c.in-Some.line.now in
    rw c.moment_after-least.ensures (rw c.in_ok-push.ensures (
    next-sequel c.args.version c.args.text.now c.loop-line.lines.items c.loop-line.number c.loop-line.least
    c.loop-line.rest.now
    c.in-Some.line.now c.in-Some.after.now c.in_ok-line.line c.loop-line.invariant c.in-Some.ensures.parts
    c.in-Some.ensures.shorter
    (unless-ok c.in_ok-line.line said c.in_ok-line.ensures)))
