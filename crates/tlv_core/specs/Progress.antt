-- The state in the code, as contracts see it.
use Rattle.tlv_core.specs.declared.progress.Progress.{Progress}
use Rattle.tlv_core.specs.Header.{header_octets}
use Rattle.tlv_core.specs.Reasons.{Kept}
use Rattle.tlv_core.specs.Open.{rooms_to}
use Rattle.tlv_core.specs.OpenEnds.{ends_of}

-- the state, with the ends of open objects as rooms, and the header as octets
abbrev pub kept_of : Progress → Kept
kept_of p = record {
  max = p.ends.max;
  count = p.ends.count;
  rooms = rooms_to p.ends.count (ends_of p.ends);
  header =
      header_octets p.header;
  value_left = p.value_left;
}
