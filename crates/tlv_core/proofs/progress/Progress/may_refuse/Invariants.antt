use Rattle.std.proofs.Common.{ℕ, ◌<◌}
use Rattle.octet_core.specs.Grammar.{IsFirst}
use Rattle.tlv_core.specs.Reasons.{tlv_reasons}
use Rattle.tlv_core.specs.Steps.{IsWrongAfter}
use Rattle.tlv_core.specs.Progress.{kept_of}
use Rattle.tlv_core.proofs.progress.Progress.may_refuse.Given as goal

-- no octet so far is refused for this reason
abbrev pub invariant-loop-octet : goal.invariant-loop-octet
invariant-loop-octet l = (x : ℕ) → x < l.octet → IsFirst tlv_reasons (IsWrongAfter (kept_of l.self) x) l.reason → ⊥
