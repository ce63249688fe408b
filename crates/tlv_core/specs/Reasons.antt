-- Why octets aren't a forest, and what the start of a forest leaves open (EMV 4.3 Book 3, Annex B; ISO/IEC 7816-4,
-- clause 5.2.2; the limits of depth, of a tag and of the whole are this project's).
use Rattle.std.specs.Prelude.{◌≡◌, ℕ, ◌+◌, ◌-◌, ◌*◌, ◌%◌, ◌^◌, ◌<◌, ◌≤◌, ◌≢◌, List, [], ◌∷◌, ◌++◌, length, nat_lt, nat_eq, cond}
use Rattle.std.proofs.Common.{zero, suc}
use Rattle.octet_core.specs.Octets.{AreOctets}
use Rattle.tlv_core.specs.Number.{number_of}
use Rattle.octet_core.specs.Grammar.{IsFirst, Begins}
use Rattle.tlv_core.specs.Tag.{IsTag, IsLong, length_field, header_of}
use Rattle.tlv_core.specs.Form.{capacity}
use Rattle.tlv_core.specs.Tree.{Tree}
use Rattle.tlv_core.specs.Forest.{spelling, IsProper, IsObject, IsForest, deepest}
use Rattle.tlv_core.specs.declared.form.Form.{Form}
use Rattle.tlv_core.specs.declared.reason.TlvReason.{TlvReason}
use Rattle.tlv_core.specs.declared.reason.TlvReason.TheVariants.{TooDeep, TagSecond, TagLong, LengthForm, Overrun, TooLong}

-- ---- what octets leave open

-- The octets b, in a list at depth d, are whole objects and fillers, the header of a constructed object, and the octets
-- `value`. Then `room` more octets of its value are still to come.
pub record OpensOne (d room : ℕ) (value b : List ℕ) : Type 0 where
  pub done : Tree
  pub proper : IsProper d done
  pub tag : List ℕ
  pub form : Form
  pub object : IsObject d 1 tag form (length value + room)
  pub open_yet : 0 < room
  pub is : b ≡ spelling done ++ (header_of tag form (length value + room) ++ value)

-- the octets b, in a list at depth d, are whole objects and fillers, and then the octets `last`
pub record EndsIn (d : ℕ) (last b : List ℕ) : Type 0 where
  pub done : Tree
  pub proper : IsProper d done
  pub is : b ≡ spelling done ++ last

-- The octets b, in a list at depth d, leave constructed objects open, each inside the one before. These rooms are left
-- in them, outermost first. In the innermost list b ends in whole objects and fillers, and then the octets `last`.
abbrev pub Opens : ℕ → List ℕ → List ℕ → List ℕ → Type 0
Opens d [] last b = EndsIn d last b
Opens d (room ∷ rooms) last b = (value : List ℕ) × OpensOne d room value b × Opens (d + 1) rooms last value

-- h is the start of a header: nothing, or its first octets without the last
pub record IsBegun (h : List ℕ) : Type 0 where
  pub tag : List ℕ
  pub form : Form
  pub n : ℕ
  pub next : ℕ
  pub more : List ℕ
  pub is_tag : IsTag tag
  pub fits : n < capacity form
  pub is : h ++ next ∷ more ≡ header_of tag form n

-- ---- the least number of octets of an object that must still come

-- after these first octets of a length field
abbrev pub need_in_length : List ℕ → ℕ
need_in_length [] = 1
need_in_length (x ∷ more) = cond (nat_lt x 128) x
    ((x - 128 - length more) + number_of more * 256 ^ (x - 128 - length more))

-- after a second tag octet with bit 8
abbrev pub need_after_two : List ℕ → ℕ
need_after_two [] = 2
need_after_two (z ∷ more) = need_in_length more

-- after a first tag octet whose low five bits are all 1
abbrev pub need_after_one : List ℕ → ℕ
need_after_one [] = 2
need_after_one (y ∷ more) = cond (nat_lt y 128) (need_in_length more) (need_after_two more)

-- after a filler, or the first octets of an object
abbrev pub need : List ℕ → ℕ
need [] = 0
need (zero ∷ more) = 0
need (x ∷ more) = cond (nat_eq (x % 32) 31) (need_after_one more) (need_in_length more)

-- ---- reasons

-- the room at the next octet: to the end of the innermost open object, or to the limit if none is open
abbrev pub room_of : ℕ → List ℕ → ℕ
room_of left [] = left
room_of left (room ∷ rooms) = room_of room rooms

-- one octet was read: a first tag octet that a second one follows
abbrev pub AwaitsSecond : List ℕ → Type 0
AwaitsSecond [] = ⊥
AwaitsSecond (x ∷ []) = IsLong x
AwaitsSecond (x ∷ y ∷ more) = ⊥

-- two octets were read, and a third tag octet follows
abbrev pub AwaitsThird : List ℕ → Type 0
AwaitsThird [] = ⊥
AwaitsThird (x ∷ []) = ⊥
AwaitsThird (x ∷ y ∷ []) = IsLong x × (128 ≤ y)
AwaitsThird (x ∷ y ∷ z ∷ more) = ⊥

-- this octet can begin a length field
abbrev pub BeginsLength : ℕ → Type 0
BeginsLength x = (form : Form) × (n : ℕ) × (more : List ℕ) × (n < capacity form) × (length_field form n ≡ x ∷ more)

-- What is wrong with the octet x after the start h of a header. `level` objects are open, and `room` is the room at the
-- octet. An object would begin inside the deepest one; or a second tag octet has only zeros in its low seven bits, so
-- that the tag number has leading zeros; or a third tag octet says that a fourth follows; or no length field begins so,
-- such as with 80 or 85; or the object ends after the one around it; or the whole gets longer than the limit.
abbrev pub IsWrong : ℕ → ℕ → List ℕ → ℕ → TlvReason → Type 0
IsWrong level room h x TooDeep = (h ≡ []) × (level ≡ deepest) × (x ≢ 0)
IsWrong level room h x TagSecond = AwaitsSecond h × (x % 128 ≡ 0)
IsWrong level room h x TagLong = AwaitsThird h × (128 ≤ x)
IsWrong level room h x LengthForm = IsTag h × (BeginsLength x → ⊥)
IsWrong level room h x Overrun = (0 < level) × (room < 1 + need (h ++ x ∷ []))
IsWrong level room h x TooLong = (level ≡ 0) × (room < 1 + need (h ++ x ∷ []))

-- the lines of the table, in their order
abbrev pub tlv_reasons : List TlvReason
tlv_reasons = TooDeep ∷ TagSecond ∷ TagLong ∷ LengthForm ∷ Overrun ∷ TooLong ∷ []

-- those that depend on the octet and the header alone
abbrev pub octet_reasons : List TlvReason
octet_reasons = TagSecond ∷ TagLong ∷ LengthForm ∷ []

-- b ends in an octet of a header, or in a filler
pub record EndsInHeader (b : List ℕ) : Type 0 where
  pub before : List ℕ
  pub octet : ℕ
  pub rooms : List ℕ
  pub header : List ℕ
  pub is : b ≡ before ++ octet ∷ []
  pub opens : Opens 1 rooms header before
  pub begun : IsBegun header

-- the last octet of b meets this line of the table
abbrev pub Meets : ℕ → List ℕ → TlvReason → Type 0
Meets max b r = (e : EndsInHeader b) × IsWrong (length e.rooms) (room_of (max - length e.before) e.rooms) e.header
    e.octet r

-- the reason of a refusal at the last octet of b: the first line of the table that it meets
abbrev pub IsReason : ℕ → TlvReason → List ℕ → Type 0
IsReason max r b = (e : EndsInHeader b) × IsFirst tlv_reasons
    (IsWrong (length e.rooms) (room_of (max - length e.before) e.rooms) e.header e.octet) r

-- ---- the state of a check of octets that come in pieces

-- The state of a check after some octets: its limit, how many octets came, and the rooms of the objects that they leave
-- open. If they end in an unfinished header, the state has it. If they end in a primitive value, the state has how many
-- of its octets are still to come, otherwise 0.
pub record Kept : Type 0 where
  pub max : ℕ
  pub count : ℕ
  pub rooms : List ℕ
  pub header : List ℕ
  pub value_left : ℕ

-- the octets are the header of a primitive object at depth d, and its value without the last `left` octets
pub record IsValuePart (d left : ℕ) (b : List ℕ) : Type 0 where
  pub tag : List ℕ
  pub form : Form
  pub value : List ℕ
  pub octets : AreOctets value
  pub object : IsObject d 0 tag form (length value + left)
  pub is : b ≡ header_of tag form (length value + left) ++ value

-- `last` is the unfinished header; or, if a value is being read, it is the object so far, and no header is unfinished
abbrev pub IsKept : ℕ → List ℕ → ℕ → List ℕ → Type 0
IsKept d header zero last = IsBegun header × (last ≡ header)
IsKept d header (suc n) last = (header ≡ []) × IsValuePart d (suc n) last

-- A check with this state has taken the octets b, and refused none of them.
pub record HasTaken (b : List ℕ) (k : Kept) : Type 0 where
  pub begun : Begins (IsForest k.max) b
  pub count : length b ≡ k.count
  pub last : List ℕ
  pub opens : Opens 1 k.rooms last b
  pub kept : IsKept (1 + length k.rooms) k.header k.value_left last

-- nothing is unfinished, so the octets that a check has taken are whole objects and fillers
abbrev pub IsIdle : Kept → Type 0
IsIdle k = (k.rooms ≡ []) × (k.header ≡ []) × (k.value_left ≡ 0)
