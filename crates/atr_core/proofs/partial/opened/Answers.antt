use Rattle.std.proofs.Common.{arith, refl, inl}
use Rattle.octet_core.specs.Grammar.{IsFirst}
use Rattle.atr_core.proofs.partial.opened.Goals as goal

pub returns-in_default-clause-refused : goal.returns-in_default-clause-refused
unfolding IsFirst
returns-in_default-clause-refused c = inl ((refl, λ e. omega arith, λ e. omega arith), refl)
