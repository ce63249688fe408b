-- The places at which the open objects end, as the code keeps them.
use Rattle.std.specs.Prelude.{ℕ, List, [], take}
use Rattle.tlv_core.specs.declared.open_ends.OpenEnds.{OpenEnds}
use Rattle.tlv_core.specs.Reasons.{Kept}
use Rattle.tlv_core.specs.Open.{rooms_to}

-- these places, outermost first
abbrev pub ends_of : OpenEnds → List ℕ
ends_of e = take e.level e.places

-- the state with no unfinished header and no unfinished value
abbrev pub kept_idle : OpenEnds → Kept
kept_idle e = record {
  max = e.max;
  count = e.count;
  rooms = rooms_to e.count (ends_of e);
  header = [];
  value_left = 0;
}
