use Rattle.std.proofs.Common.{◌≡◌, ◌+◌, drop, None}
use Rattle.exchange_core.specs.Replay.{replay_lines}
use Rattle.exchange_core.proofs.replaying.replay_lines.Given as goal

abbrev pub invariant-loop-line : goal.invariant-loop-line
invariant-loop-line g l =
    (l.number ≡ l.line-index + 3)
    × (replay_lines g.E.Replayed.end (drop l.line-index l.lines) l.number l.end l.pending
    ≡ replay_lines g.E.Replayed.end l.lines 3 l.fn.end None)
