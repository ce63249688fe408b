-- Forests of BER-TLV data objects, and their encoding (EMV 4.3 Book 3, Annex B; ISO/IEC 7816-4, clause 5.2.2).
use Rattle.std.specs.Prelude.{◌≡◌, ℕ, ◌+◌, ◌<◌, ◌≤◌, List, [], ◌∷◌, ◌++◌, length}
use Rattle.octet_core.specs.Octets.{AreOctets}
use Rattle.tlv_core.specs.Tag.{IsTag, constructed_bit, header_of}
use Rattle.tlv_core.specs.Form.{capacity}
use Rattle.tlv_core.specs.Tree.{Tree, End, Filler, Primitive, Constructed}
use Rattle.tlv_core.specs.declared.form.Form.{Form}

-- The encoding of a list. A filler is 00. An object is its tag, its length field and its value. The value of a
-- constructed object is the encoding of its nodes.
abbrev pub spelling : Tree → List ℕ
spelling End = []
spelling (Filler rest) = 0 ∷ spelling rest
spelling (Primitive tag form value rest) = header_of tag form (length value) ++ (value ++ spelling rest)
spelling (Constructed tag form nodes rest) =
    header_of tag form (length (spelling nodes)) ++ (spelling nodes ++ spelling rest)

-- the greatest depth of an object
abbrev pub deepest : ℕ
deepest = 16

-- the greatest number of octets of a forest
abbrev pub largest : ℕ
largest = 1048576

-- An object at depth d has a value of n octets, and its tag has this bit for constructed.
pub record IsObject (d bit : ℕ) (tag : List ℕ) (form : Form) (n : ℕ) : Type 0 where
  pub depth : d ≤ deepest
  pub is_tag : IsTag tag
  pub is_bit : constructed_bit tag ≡ bit
  pub fits : n < capacity form

-- a list at depth d that has an encoding; the nodes of an object are one deeper than the object
abbrev pub IsProper : ℕ → Tree → Type 0
IsProper d End = Unit {0}
IsProper d (Filler rest) = IsProper d rest
IsProper d (Primitive tag form value rest) = IsObject d 0 tag form (length value) × AreOctets value × IsProper d rest
IsProper d (Constructed tag form nodes rest) =
    IsObject d 1 tag form (length (spelling nodes)) × IsProper (d + 1) nodes × IsProper d rest

-- the octets b, at most max of them, encode the forest t, whose outermost objects have depth 1
pub record IsForest (max : ℕ) (t : Tree) (b : List ℕ) : Type 0 where
  pub proper : IsProper 1 t
  pub is : b ≡ spelling t
  pub size : length b ≤ max

-- t has an encoding of at most max octets
abbrev pub HasSpelling : ℕ → Tree → Type 0
HasSpelling max t = IsForest max t (spelling t)
