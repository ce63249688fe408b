use Rattle.std.proofs.Common.{◌≡◌, drop, map}
use Rattle.tlv_core.specs.Flat.{part_seen}
use Rattle.program_octets.specs.ForestTexts.{object_rows}
use Rattle.program_octets.specs.Rows.{with_rows}
use Rattle.program_octets.proofs.forest.push_parts.Given as goal

-- the rows so far and those of the parts that are left make the whole
abbrev pub invariant-loop-part : goal.invariant-loop-part
invariant-loop-part l = with_rows l.to (object_rows (map part_seen (drop l.part-index l.parts)))
    ≡ with_rows l.fn.to (object_rows (map part_seen l.parts))
