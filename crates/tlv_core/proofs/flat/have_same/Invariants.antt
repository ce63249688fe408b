use Rattle.std.proofs.Common.{◌≡◌, take, map}
use Rattle.tlv_core.specs.Flat.{part_seen}
use Rattle.tlv_core.proofs.flat.have_same.Given as goal

abbrev pub invariant-loop-place : goal.invariant-loop-place
invariant-loop-place l = take l.place (map part_seen l.parts) ≡ take l.place (map part_seen l.others)
