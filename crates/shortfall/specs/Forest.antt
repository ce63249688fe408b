-- Data objects: EMV 4.3 Book 3, annex B; ISO/IEC 7816-4, clause 5.2.2.
use Rattle.std.specs.Prelude.{ℕ, ◌+◌, List, [], ◌∷◌}
use Rattle.tlv_core.specs.Reasons.{Kept, need}

-- the rest of the outermost open object; if none is open, what an unfinished header needs, or the rest of a value
abbrev pub rest_after : List ℕ → List ℕ → ℕ → ℕ
rest_after [] header value_left = need header + value_left
rest_after (room ∷ rooms) header value_left = room

-- after octets that leave this open
abbrev pub open_rest : Kept → ℕ
open_rest k = rest_after k.rooms k.header k.value_left
