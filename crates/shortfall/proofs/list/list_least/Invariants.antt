use Rattle.std.proofs.Common.{◌≡◌, ◌≤◌, [], drop, slice_range}
use Rattle.shortfall.specs.List.{begun_after}
use Rattle.shortfall.proofs.list.list_least.Given as goal

-- what is under way, with the octets that are left, is what all octets leave
abbrev pub invariant-loop-at : goal.invariant-loop-at
invariant-loop-at l = record {
  start : l.start ≤ l.at;
  begun : begun_after (slice_range l.octets l.start l.at) (drop l.at l.octets) ≡ begun_after [] l.octets;
}
