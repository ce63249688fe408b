-- Objects with a short header: a tag, and a length field of at most three octets.
use Rattle.std.specs.Prelude.{◌≡◌, ℕ, ◌+◌, ◌-◌, ◌<◌, ◌≤◌, List, [], ◌∷◌, ◌++◌, length, take, drop, Bool, true, false, cond}
use Rattle.std.proofs.Common.{zero, suc}
use Rattle.tlv_core.specs.declared.short.ShortHeader.{ShortHeader}
use Rattle.tlv_core.specs.declared.short.ShortLength.{ShortLength}
use Rattle.tlv_core.specs.Form.{capacity, further}
use Rattle.tlv_core.specs.Tag.{IsTag, constructed_bit, header_of, length_field}
use Rattle.tlv_core.specs.Reasons.{Kept, room_of}
use Rattle.tlv_core.specs.Steps.{spent}

-- how many octets are taken in one step: all of a primitive object, or the header of a constructed one
abbrev pub taken_of : ShortHeader → ℕ
taken_of o = cond o.is_constructed o.header (o.header + o.len)

-- those of them that are octets of the value
abbrev pub value_in : List ℕ → ShortHeader → List ℕ
value_in octets o = take (taken_of o - o.header) (drop o.header octets)

-- how many octets the whole object has
abbrev pub whole_of : ShortHeader → ℕ
whole_of o = o.header + o.len

-- the octets begin with this length field
pub record IsShortLength (octets : List ℕ) (l : ShortLength) : Type 0 where
  pub within : 1 + further l.form ≤ length octets
  pub fits : l.len < capacity l.form
  pub is : take (1 + further l.form) octets ≡ length_field l.form l.len

-- the octets begin with this header
pub record IsShort (octets : List ℕ) (o : ShortHeader) : Type 0 where
  pub is_tag : IsTag o.tag
  pub longer : length o.tag < o.header
  pub within : o.header ≤ length octets
  pub fits : o.len < capacity o.form
  pub is : take o.header octets ≡ header_of o.tag o.form o.len
  pub bit : constructed_bit o.tag ≡ cond o.is_constructed 1 0

-- the room in the object, if it is open after its header
abbrev pub opened : Bool → ℕ → List ℕ
opened false len = []
opened true zero = []
opened true (suc n) = suc n ∷ []

-- the state after such an object, or after its header
abbrev pub after_short : Kept → ShortHeader → Kept
after_short k o = record {
  max = k.max;
  count = k.count + taken_of o;
  rooms =
      spent (taken_of o) k.rooms ++ opened o.is_constructed o.len;
  header = [];
  value_left = 0;
}

-- after this state the octets begin with this header, and what is taken of the object in one step is here and fits
pub record MayCome (k : Kept) (octets : List ℕ) (o : ShortHeader) : Type 0 where
  pub nothing : k.header ≡ []
  pub idle : k.value_left ≡ 0
  pub shallow : length k.rooms < 16
  pub short : IsShort octets o
  pub here : taken_of o ≤ length octets
  pub room : whole_of o ≤ room_of (k.max - k.count) k.rooms
