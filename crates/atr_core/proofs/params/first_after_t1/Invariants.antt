use Rattle.std.proofs.Common.{◌≡◌, drop}
use Rattle.std.specs.Option.{option_or}
use Rattle.atr_core.specs.T1.{first_after_t1}
use Rattle.atr_core.proofs.params.first_after_t1.Given as goal

-- what was found, or else what stands in the rest, is what stands in all
abbrev pub invariant-loop-x : goal.invariant-loop-x
invariant-loop-x l = record {
  ta : option_or l.found.ta (first_after_t1 (λ bytes. bytes.ta) (drop l.x-index l.indicated)) ≡ first_after_t1
      (λ bytes. bytes.ta) l.indicated;
  tb : option_or l.found.tb (first_after_t1 (λ bytes. bytes.tb) (drop l.x-index l.indicated)) ≡ first_after_t1
      (λ bytes. bytes.tb) l.indicated;
  tc : option_or l.found.tc (first_after_t1 (λ bytes. bytes.tc) (drop l.x-index l.indicated)) ≡ first_after_t1
      (λ bytes. bytes.tc) l.indicated;
}
