use Rattle.std.proofs.Common.{List, ℕ}
use Rattle.program.specs.Calls.{calls_of}
use Rattle.program.proofs.Unlimited.{IsPassed}
use Rattle.program.proofs.pieces.read_past.Given as goal

-- each call so far read a piece
abbrev pub invariant-loop-turn : goal.invariant-loop-turn
invariant-loop-turn g l = record {
  read : List ℕ;
  so_far : IsPassed (calls_of g.R.Source.remaining g.R.Source.failures l.fn.reader l.reader) read l._turn;
}
