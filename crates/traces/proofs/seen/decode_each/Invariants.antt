use Rattle.std.proofs.Common.{◌≡◌, take}
use Rattle.traces.proofs.seen.decode_each.Given as goal

abbrev pub invariant-loop-item : goal.invariant-loop-item
invariant-loop-item l = l.seen.items ≡ take l.item-index l.items
