use Rattle.std.proofs.Common.{◌≡◌, ◌≤◌, ◌-◌, ◌*◌, [], string_bytes}
use Rattle.program_octets.specs.Places.{ranges_in, with_ranges}
use Rattle.program_octets.proofs.places.field_ranges.Given as goal

-- the fields of the blocks that are left, added to those so far, make the whole
abbrev pub invariant-loop : goal.invariant-loop
invariant-loop l = record {
  whole : with_ranges (string_bytes l.ranges) (ranges_in (l.blocks - l.counter) l.at l.octets)
      ≡ with_ranges [] (ranges_in l.blocks 0 l.octets);
  small : l.at ≤ 259 * l.counter;
}
