-- Which states of a check some octets can lead to, by the numbers in them.
use Rattle.std.specs.Prelude.{◌≡◌, ℕ, ◌+◌, ◌-◌, ◌<◌, ◌≤◌, List, [], ◌∷◌, length, nat_lt, cond}
use Rattle.tlv_core.specs.declared.header.Header.TheVariants.{Nothing}
use Rattle.tlv_core.specs.declared.lent.LentCheck.{LentCheck}
use Rattle.tlv_core.specs.Header.{header_octets, header_need}
use Rattle.tlv_core.specs.Open.{rooms_to}
use Rattle.tlv_core.specs.Reasons.{room_of}
use Rattle.tlv_core.specs.Lent.{ends_at}

-- The first place at which the value of an object can begin. The object ends at `end`, and its header begins at `place`
-- or later: a tag of one octet, and the shortest length field.
abbrev pub value_from : ℕ → ℕ → ℕ
value_from place end =
    cond (nat_lt end (place + 130)) (place + 2)
    (cond (nat_lt end (place + 259)) (place + 3) (cond (nat_lt end (place + 65540)) (place + 4) (place + 5)))

-- the first place at which the list inside these objects can begin; they end at these places, each inside the one
-- before
abbrev pub inner_from : ℕ → List ℕ → ℕ
inner_from place [] = place
inner_from place (end ∷ ends) = inner_from (value_from place end) ends

-- the first place at which the innermost list can begin
abbrev pub inner_at : LentCheck → ℕ
inner_at p = inner_from 0 (ends_at p)

-- the room at the next octet
abbrev pub room_at : LentCheck → ℕ
room_at p = room_of (p.max - p.count) (rooms_to p.count (ends_at p))

-- The octets of the unfinished header can have come in the innermost list, and the octets that it still needs have
-- room.
pub record IsAtHeader (p : LentCheck) : Type 0 where
  pub begun : inner_at p + length (header_octets p.header) ≤ p.count
  pub need : header_need p.header ≤ room_at p

-- The header of the unfinished primitive value can have come in the innermost list, and the rest of the value has room.
pub record IsInValue (p : LentCheck) : Type 0 where
  pub none : p.header ≡ Nothing
  pub shallow : length (ends_at p) < 16
  pub begun : value_from (inner_at p) (p.count + p.value_left) ≤ p.count
  pub need : p.value_left ≤ room_at p

-- whichever of the two applies
abbrev pub CanCome : LentCheck → Type 0
CanCome p = (p.value_left ≡ 0 → IsAtHeader p) × (0 < p.value_left → IsInValue p)
