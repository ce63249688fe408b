use Rattle.std.proofs.Common.{◌≡◌, ◌+◌, ◌-◌}
use Rattle.chain_core.specs.Taking.{IsClosed}
use Rattle.chain_core.specs.Moving.{HasRead}
use Rattle.chain_core.proofs.reading.read_chain.Given as goal

-- what was read so far, by calls that didn't fail; where the receiver took no more, nothing was
abbrev pub invariant-loop-room : goal.invariant-loop-room
invariant-loop-room g l = record {
  so_far : HasRead (g.R.Source.remaining l.fn.reader) (g.R.Source.remaining l.reader) l.fn.receiver l.receiver l.taken;
  count : g.R.Source.failures l.reader ≡ g.R.Source.failures l.fn.reader;
  closed : IsClosed l.fn.receiver → (l.reader ≡ l.fn.reader) × (l.receiver ≡ l.fn.receiver);
}

-- no chain begins with more octets than this
abbrev pub decreases-loop-room : goal.decreases-loop-room
decreases-loop-room g l = l.fn.receiver.max + 524289 - l.taken
