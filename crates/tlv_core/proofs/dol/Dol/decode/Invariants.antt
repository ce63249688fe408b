use Rattle.std.proofs.Common.{◌-◌, length}
use Rattle.tlv_core.specs.Dol.{HasListed}
use Rattle.tlv_core.proofs.dol.Dol.decode.Given as goal

abbrev pub invariant-loop-entries : goal.invariant-loop-entries
invariant-loop-entries l = HasListed l.octets l.walk l.entries.items

abbrev pub decreases-loop-entries : goal.decreases-loop-entries
decreases-loop-entries l = length l.octets - l.walk
