use Rattle.std.proofs.Common.{take}
use Rattle.tlv_core.specs.ByTag.{HasAll}
use Rattle.tlv_core.proofs.ByTags.{Once}
use Rattle.explainer.proofs.known.first_twice.Given as goal

-- the values so far are in the map, and each has another tag
abbrev pub invariant-loop-nth : goal.invariant-loop-nth
invariant-loop-nth l = HasAll (take l.nth l.known) l.placed × Once l.known l.nth
