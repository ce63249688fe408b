use Rattle.std.proofs.Common.{arith}
use Rattle.std.proofs.lemmas.Result.{err_from_is_err_and}
use Rattle.line_core.proofs.Rounds.{goes-on, is-over, stops, runs-out}
use Rattle.line_core.proofs.serving.serve.Goals as goal

pub returns-in_err-serve_block : goal.returns-in_err-serve_block
returns-in_err-serve_block g c =
    let p = err_from_is_err_and c.from_residual.result c.from_residual.ensures.1 in
    rw (p.1, p.2) (stops (g.L.CardLine.said c.args.line.now) (g.L.CardLine.said c.loop-left.line)
    (g.L.CardLine.said c.serve_block.new.line) (g.H.Host.served c.args.host.now) (g.H.Host.served c.loop-left.host)
    (g.H.Host.served c.serve_block.new.host) c.args.most_blocks c.loop-left.left c.args.card.now c.loop-left.card
    c.serve_block.new.card c.in_err-serve_block.field-0.0 (omega arith) c.in_err-serve_block.ensures
    c.loop-left.invariant)

pub returns-then-not-branch : goal.returns-then-not-branch
returns-then-not-branch g c = is-over (g.L.CardLine.said c.args.line.now) (g.L.CardLine.said c.loop-left.line)
    (g.L.CardLine.said c.serve_block.new.line) (g.H.Host.served c.args.host.now) (g.H.Host.served c.loop-left.host)
    (g.H.Host.served c.serve_block.new.host) c.args.most_blocks c.loop-left.left c.args.card.now c.loop-left.card
    c.serve_block.new.card (omega arith) (rw c.if-not-branch.true at c.in_ok-serve_block.ensures) c.loop-left.invariant

pub loop-left-preserved : goal.loop-left-preserved
loop-left-preserved g c = goes-on (g.L.CardLine.said c.args.line.now) (g.L.CardLine.said c.loop-left.line)
    (g.L.CardLine.said c.serve_block.new.line) (g.H.Host.served c.args.host.now) (g.H.Host.served c.loop-left.host)
    (g.H.Host.served c.serve_block.new.host) c.args.most_blocks c.loop-left.left c.args.card.now c.loop-left.card
    c.serve_block.new.card (omega arith) (rw c.if-not-branch.false at c.in_ok-serve_block.ensures) c.loop-left.invariant

pub returns : goal.returns
returns g c = runs-out (g.L.CardLine.said c.args.line.now) _ (g.H.Host.served c.args.host.now) _ _ _ _ _ (omega arith)
    c.loop-left.invariant
