use Rattle.std.proofs.Common.{◌≡◌, ◌++◌, take, false}
use Rattle.atr_core.specs.Partial.{Holds, is_whole, taken_of}
use Rattle.atr_core.proofs.partial.Partial.take_octets.Given as goal

-- the octets before the piece and those of it so far are those that have come, and more must
abbrev pub invariant-loop-place : goal.invariant-loop-place
invariant-loop-place l = record {
  holds : Holds l.self;
  unended : is_whole l.self ≡ false;
  taken : taken_of l.self ≡ taken_of l.fn.self ++ take l.place l.piece;
}
