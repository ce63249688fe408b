use Rattle.std.proofs.Common.{◌≡◌, ◌≤◌, ◌*◌, take}
use Rattle.tlv_core.specs.Led.{inner_from}
use Rattle.tlv_core.proofs.lent.inner_from.Given as goal

abbrev pub invariant-loop-end : goal.invariant-loop-end
invariant-loop-end l = (l.place ≡ inner_from 0 (take l.end-index l.ends)) × (l.place ≤ 5 * l.end-index)
