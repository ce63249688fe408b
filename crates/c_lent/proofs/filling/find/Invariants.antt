use Rattle.std.proofs.Common.{◌≡◌, map, drop}
use Rattle.tlv_core.specs.Fill.{known_for}
use Rattle.c_lent.specs.Fill.{known_seen}
use Rattle.c_lent.proofs.filling.find.Given as goal

-- none of the first ones has the tag
abbrev pub invariant-loop-one : goal.invariant-loop-one
invariant-loop-one l = known_for l.tag (map known_seen l.known) ≡ known_for l.tag
    (map known_seen (drop l.one-index l.known))
