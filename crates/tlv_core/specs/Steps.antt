-- How the state changes as more octets come.
use Rattle.std.specs.Prelude.{◌≡◌, ℕ, ◌+◌, ◌-◌, ◌<◌, List, [], ◌∷◌, ◌++◌, length, nat_lt, cond}
use Rattle.std.proofs.Common.{zero, suc}
use Rattle.tlv_core.specs.declared.header.Next.{Next}
use Rattle.tlv_core.specs.declared.header.Next.TheVariants as next
use Rattle.tlv_core.specs.declared.reason.TlvReason.{TlvReason}
use Rattle.tlv_core.specs.Tag.{constructed_bit}
use Rattle.tlv_core.specs.Forest.{deepest}
use Rattle.tlv_core.specs.Header.{header_octets, IsNext, next_need}
use Rattle.tlv_core.specs.Reasons.{Kept, IsWrong, room_of}

-- the rooms, outermost first, after m more octets: an object whose end is reached is closed, and so are those inside it
abbrev pub spent : ℕ → List ℕ → List ℕ
spent m [] = []
spent m (room ∷ rooms) = cond (nat_lt m room) ((room - m) ∷ spent m rooms) []

-- the state after an octet that leaves this header unfinished
abbrev pub after_octet : Kept → List ℕ → Kept
after_octet k h = record { max = k.max; count = k.count + 1; rooms = spent 1 k.rooms; header = h; value_left = 0 }

-- The state after the whole header of an object. If its value is empty, nothing more of it is to come. Otherwise, if
-- the object is primitive (bit 6 of its tag is 0), its value is to come; else the object is open, with the whole value
-- as its room.
abbrev pub entered : Kept → ℕ → ℕ → Kept
entered k zero bit = k
entered k (suc n) zero = record { max = k.max; count = k.count; rooms = k.rooms; header = k.header; value_left = suc n }
entered k (suc n) (suc bit) = record {
  max = k.max;
  count = k.count;
  rooms = k.rooms ++ suc n ∷ [];
  header =
      k.header;
  value_left = k.value_left;
}

-- the state after an octet with this result for the header
abbrev pub after_next : Kept → Next → Kept
after_next k next.Filler = after_octet k []
after_next k (next.Under longer) = after_octet k (header_octets longer)
after_next k (next.Object o) = entered (after_octet k []) o.len (constructed_bit o.tag)

-- the state after m octets of a primitive value
abbrev pub after_run : Kept → ℕ → Kept
after_run k m = record {
  max = k.max;
  count = k.count + m;
  rooms = spent m k.rooms;
  header = k.header;
  value_left =
      k.value_left - m;
}

-- what is wrong with the octet x after this state
abbrev pub IsWrongAfter : Kept → ℕ → TlvReason → Type 0
IsWrongAfter k x r = IsWrong (length k.rooms) (room_of (k.max - k.count) k.rooms) k.header x r

-- the octet x may come, and has this result for the header
pub record IsStep (k : Kept) (x : ℕ) (next : Next) : Type 0 where
  pub follows : IsNext k.header x next
  pub shallow : k.header ≡ [] → length k.rooms ≡ deepest → x ≡ 0
  pub room : next_need next < room_of (k.max - k.count) k.rooms
