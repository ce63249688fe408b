use Rattle.std.proofs.Common.{inr, sym}
use Rattle.std.proofs.lemmas.Result.{err_from_is_err_and}
use Rattle.exchange_text.proofs.Sequel.{all-said, second-fault}
use Rattle.exchange_text.proofs.reading.rest_said.Goals as goal

pub returns-in_err-atr : goal.returns-in_err-atr
returns-in_err-atr c =
    let p = err_from_is_err_and c.from_residual-in_err-atr.result c.from_residual-in_err-atr.ensures.1 in
    let parts = rw c.in_ok-line.ensures.ok_part at c.cut_at.ensures.parts in
    rw (p.1, p.2) (second-fault c.args.version c.args.text.now c.in_ok-line.line.now c.in_ok-line.rest.now
    c.in_err-atr.field-0.0 parts c.in_err-atr.ensures)

pub returns : goal.returns
returns c =
    let parts = rw c.in_ok-line.ensures.ok_part at c.cut_at.ensures.parts in
    rw c.proper.ensures (
    inr (sym (all-said c.args.version c.args.text.now c.in_ok-line.line.now c.in_ok-line.rest.now c.in_ok-atr.atr
    c.in_ok-lines.lines parts c.in_ok-atr.ensures c.in_ok-lines.ensures.said)))
