use Rattle.std.proofs.Common.{◌≡◌, map, take}
use Rattle.c_lent.specs.Atr.{indicated_of}
use Rattle.c_lent.proofs.atr.listed.Given as goal

-- the TDs so far
abbrev pub invariant-loop-c : goal.invariant-loop-c
invariant-loop-c l = l.listed.items ≡ map indicated_of (take l.c-index l.given)
