use Rattle.std.proofs.Common.{take}
use Rattle.std.specs.Prelude.{All}
use Rattle.c_lent.specs.Fill.{IsKnown}
use Rattle.c_lent.proofs.filling.are_known.Given as goal

-- the first ones say known values
abbrev pub invariant-loop-one : goal.invariant-loop-one
invariant-loop-one l = All IsKnown (take l.one-index l.known)
