-- Tags and length fields of BER-TLV data objects (EMV 4.3 Book 3, Annex B; ISO/IEC 7816-4, clause 5.2.2).
use Rattle.std.specs.Prelude.{◌≡◌, ℕ, ◌+◌, ◌/◌, ◌%◌, ◌<◌, ◌≢◌, List, [], ◌∷◌, ◌++◌, Bool, false, ◌&&◌, ◌==◌, not, nat_lt}
use Rattle.tlv_core.specs.Number.{high_first}
use Rattle.tlv_core.specs.declared.form.Form.{Form}
use Rattle.tlv_core.specs.declared.form.Form.TheVariants.{One}
use Rattle.tlv_core.specs.Form.{further}

-- the low five bits of a first tag octet are all 1: the number of the tag is in the octets that follow
abbrev pub IsLong : ℕ → Type 0
IsLong x = x % 32 ≡ 31

-- A tag is one octet that isn't 00 and whose low five bits aren't all 1; or a first octet whose low five bits are
-- all 1, and then one or two octets. Bit 8 is set in the first of two, and clear in the last. The low seven bits of
-- a second octet aren't all 0.
abbrev pub IsTag : List ℕ → Type 0
IsTag [] = ⊥
IsTag (x ∷ []) = (0 < x) × (x < 256) × (x % 32 ≢ 31)
IsTag (x ∷ y ∷ []) = (x < 256) × IsLong x × (0 < y) × (y < 128)
IsTag (x ∷ y ∷ z ∷ []) = (x < 256) × IsLong x × (128 < y) × (y < 256) × (z < 128)
IsTag (x ∷ y ∷ z ∷ w ∷ more) = ⊥

-- whether octets are one whole tag, computed
abbrev pub is_tag : List ℕ → Bool
is_tag (x ∷ []) = nat_lt 0 x && not (x % 32 == 31)
is_tag (x ∷ y ∷ []) = x % 32 == 31 && nat_lt 0 y && nat_lt y 128
is_tag (x ∷ y ∷ z ∷ []) = x % 32 == 31 && nat_lt 128 y && nat_lt z 128
is_tag _ = false

-- bit 6 of the first octet: 1 in the tag of a constructed object, 0 in that of a primitive one
abbrev pub constructed_bit : List ℕ → ℕ
constructed_bit [] = 0
constructed_bit (x ∷ more) = x / 32 % 2

-- The length field for n. In the form of one octet it is n itself. Otherwise it is 80 plus the number of octets that
-- follow, and then n in these octets, high octet first.
abbrev pub length_field : Form → ℕ → List ℕ
length_field One n = n ∷ []
length_field form n = (128 + further form) ∷ high_first (further form) n

-- the tag and the length field of an object
abbrev pub header_of : List ℕ → Form → ℕ → List ℕ
header_of tag form n = tag ++ length_field form n
