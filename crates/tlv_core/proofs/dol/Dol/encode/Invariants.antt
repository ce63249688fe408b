use Rattle.std.proofs.Common.{◌≡◌, take}
use Rattle.tlv_core.specs.Dol.{AreEntries, dol_spelling}
use Rattle.tlv_core.proofs.dol.Dol.encode.Given as goal

abbrev pub invariant-loop-tag : goal.invariant-loop-tag
invariant-loop-tag l = AreEntries (take l.tag-index l.tag-items)
    × (l.out.items ≡ dol_spelling (take l.tag-index l.tag-items))
