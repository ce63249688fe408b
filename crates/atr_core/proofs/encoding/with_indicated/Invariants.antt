use Rattle.std.proofs.Common.{◌≡◌, ◌<◌, length, bit_xor}
use Rattle.std.specs.List.{AllByRecursion, fold}
use Rattle.atr_core.specs.Atr.{td_octets}
use Rattle.atr_core.proofs.encoding.with_indicated.Given as goal

-- the exclusive-or so far and what is left make the whole
abbrev pub invariant-loop-rest : goal.invariant-loop-rest
invariant-loop-rest l = record {
  whole : fold bit_xor l.sum (td_octets l.rest) ≡ fold bit_xor l.fn.sum (td_octets l.indicated);
  protocols : AllByRecursion (λ x. x.protocol < 16) l.rest;
}

abbrev pub decreases-loop-rest : goal.decreases-loop-rest
decreases-loop-rest l = length l.rest
