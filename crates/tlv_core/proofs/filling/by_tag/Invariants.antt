use Rattle.std.proofs.Common.{take}
use Rattle.tlv_core.specs.ByTag.{HasAll}
use Rattle.tlv_core.proofs.ByTags.{Once}
use Rattle.tlv_core.proofs.filling.by_tag.Given as goal

abbrev pub invariant-loop-one : goal.invariant-loop-one
invariant-loop-one l = HasAll (take l.one-index l.known) l.placed × Once l.known l.one-index
