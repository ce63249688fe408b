use Rattle.std.proofs.Common.{◌≡◌, [], drop, map, string_bytes}
use Rattle.tlv_core.specs.Flat.{part_seen}
use Rattle.program_octets.specs.ForestTexts.{with_objects}
use Rattle.program_octets.proofs.forest.part_items.Given as goal

-- the objects of the parts that are left, added to those so far, make the whole
abbrev pub invariant-loop-part : goal.invariant-loop-part
invariant-loop-part l = with_objects (string_bytes l.items) (map part_seen (drop l.part-index l.parts))
    ≡ with_objects [] (map part_seen l.parts)
