use Rattle.std.proofs.Common.{◌≡◌, ◌++◌, ◌-◌, map, take, replicate}
use Rattle.c_lent.specs.Atr.{indicated_shown, no_indicated}
use Rattle.c_lent.proofs.atr.tell_indicated.Given as goal

-- the TDs so far, and unused entries after them
abbrev pub invariant-loop-place : goal.invariant-loop-place
invariant-loop-place l = l.out ≡ map indicated_shown (take l.place l.indicated) ++ replicate (31 - l.place) no_indicated
