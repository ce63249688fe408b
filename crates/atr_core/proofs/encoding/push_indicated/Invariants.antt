use Rattle.std.proofs.Common.{◌≡◌, ◌<◌, ◌++◌, length}
use Rattle.std.specs.List.{AllByRecursion}
use Rattle.atr_core.specs.Atr.{td_octets}
use Rattle.atr_core.proofs.encoding.push_indicated.Given as goal

-- what was appended and what is left make the whole
abbrev pub invariant-loop-rest : goal.invariant-loop-rest
invariant-loop-rest l = record {
  whole : l.octets.items ++ td_octets l.rest ≡ l.fn.octets.items ++ td_octets l.indicated;
  protocols : AllByRecursion (λ x. x.protocol < 16) l.rest;
}

abbrev pub decreases-loop-rest : goal.decreases-loop-rest
decreases-loop-rest l = length l.rest
