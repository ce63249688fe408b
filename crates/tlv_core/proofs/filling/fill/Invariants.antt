use Rattle.std.proofs.Common.{◌≡◌, take}
use Rattle.tlv_core.specs.Fill.{filled}
use Rattle.tlv_core.proofs.filling.fill.Given as goal

abbrev pub invariant-loop-tag : goal.invariant-loop-tag
invariant-loop-tag l = l.out.items ≡ filled l.known (take l.tag-index l.tag-items)
