-- The tree of the octets so far.
use Rattle.std.specs.Prelude.{◌≡◌, ℕ, ◌+◌, ◌<◌, List, [], ◌∷◌, ◌++◌, length, Option, Some, None}
use Rattle.octet_core.specs.Octets.{AreOctets}
use Rattle.tlv_core.specs.declared.form.Form.{Form}
use Rattle.tlv_core.specs.Number.{zeros}
use Rattle.tlv_core.specs.Tag.{header_of}
use Rattle.tlv_core.specs.Tree.{Tree}
use Rattle.tlv_core.specs.Forest.{spelling, IsProper, IsObject}
use Rattle.tlv_core.specs.Reasons.{Kept}

-- an open object: the list before it, and its header, with the length of its value
pub record Opened : Type 0 where
  pub before : Tree
  pub tag : List ℕ
  pub form : Form
  pub len : ℕ

-- a primitive object whose value is being read: its header, and the octets of the value so far
pub record ValueSoFar : Type 0 where
  pub tag : List ℕ
  pub form : Form
  pub len : ℕ
  pub octets : List ℕ

-- the open objects, outermost first, the innermost list, and the value that is being read after it, if any
pub record Grown : Type 0 where
  pub opened : List Opened
  pub list : Tree
  pub value : Option ValueSoFar

-- The octets b, in a list at depth d, are the list before the open object, its header and the octets `value`. Then
-- `room` more octets of its value are still to come.
pub record IsOpen (d : ℕ) (o : Opened) (room : ℕ) (value b : List ℕ) : Type 0 where
  pub proper : IsProper d o.before
  pub object : IsObject d 1 o.tag o.form o.len
  pub left : length value + room ≡ o.len
  pub is : b ≡ spelling o.before ++ (header_of o.tag o.form o.len ++ value)

-- The octets b, in a list at depth d, are those of open objects, each inside the one before, with these rooms. In the
-- innermost list the octets are `inner`.
abbrev pub AreOpen : ℕ → List Opened → List ℕ → List ℕ → List ℕ → Type 0
AreOpen d [] [] inner b = b ≡ inner
AreOpen d [] (room ∷ rooms) inner b = ⊥
AreOpen d (o ∷ opened) [] inner b = ⊥
AreOpen d (o ∷ opened) (room ∷ rooms) inner b =
    (value : List ℕ) × IsOpen d o room value b × AreOpen (d + 1) opened rooms inner value

-- the octets after the innermost list: the start of a header, or the header and octets of the value that is being read
abbrev pub under_way : Option ValueSoFar → List ℕ → List ℕ
under_way None header = header
under_way (Some v) header = header_of v.tag v.form v.len ++ v.octets

-- if a value is being read, no header is unfinished, and `left` octets of the value are still to come; otherwise `left`
-- is 0
abbrev pub IsUnderWay : ℕ → Option ValueSoFar → List ℕ → ℕ → Type 0
IsUnderWay d None header left = left ≡ 0
IsUnderWay d (Some v) header left = (header ≡ []) × IsObject d 0 v.tag v.form v.len × AreOctets v.octets × (0 < left)
    × (length v.octets + left ≡ v.len)

-- the octets b are the encoding of this tree, with the rooms of its open objects and its unfinished header or value
pub record HasGrown (b : List ℕ) (k : Kept) (g : Grown) : Type 0 where
  pub opened : AreOpen 1 g.opened k.rooms (spelling g.list ++ under_way g.value k.header) b
  pub proper : IsProper (1 + length k.rooms) g.list
  pub under : IsUnderWay (1 + length k.rooms) g.value k.header k.value_left

-- The octets b are the encoding of this tree, with these rooms. Inside the objects with these rooms, `closed` more
-- objects are open whose values are whole. They are still to be closed.
pub record Closing (b rooms : List ℕ) (closed : ℕ) (opened : List Opened) (list : Tree) : Type 0 where
  pub opened_yet : AreOpen 1 opened (rooms ++ zeros closed) (spelling list) b
  pub proper : IsProper (1 + length (rooms ++ zeros closed)) list
