use Rattle.std.proofs.Common.{◌≡◌, drop}
use Rattle.explainer.specs.Words.{has_mark_after}
use Rattle.explainer.proofs.given.has_mark.Given as goal

-- no mark so far, so there is one where the octets that are left have one
abbrev pub invariant-loop-octet : goal.invariant-loop-octet
invariant-loop-octet l = has_mark_after l.last (drop l.octet-index l.octets) ≡ has_mark_after 32 l.octets
