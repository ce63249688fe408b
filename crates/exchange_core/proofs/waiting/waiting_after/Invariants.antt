use Rattle.std.proofs.Common.{◌≡◌, ◌+◌, drop, None}
use Rattle.exchange_core.specs.Waiting.{waiting_from}
use Rattle.exchange_core.proofs.waiting.waiting_after.Given as goal

abbrev pub invariant-loop-line : goal.invariant-loop-line
invariant-loop-line g l =
    (l.number ≡ l.line-index + 3)
    × (waiting_from g.E.Replayed.end g.E.Replayed.waits (drop l.line-index l.lines) l.number l.end l.pending l.call
    ≡ waiting_from g.E.Replayed.end g.E.Replayed.waits l.lines 3 l.fn.end None None)
