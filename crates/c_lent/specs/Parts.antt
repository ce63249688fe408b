-- The parts of a forest as C has them.
use Rattle.std.specs.Prelude.{◌≡◌, ℕ, ◌+◌, ◌-◌, ◌≤◌, ◌==◌, ◌&&◌, min, Bool, false, List, [], ◌∷◌, length, take, map, cond, if◌then◌else◌, bytes_eq, slice_get, Option, Some, None}
use Rattle.tlv_core.specs.Tag.{constructed_bit}
use Rattle.tlv_core.specs.TagView.{padded}
use Rattle.tlv_core.specs.Form.{further}
use Rattle.tlv_core.specs.Tree.{Tree, End, Filler, Primitive, Constructed}
use Rattle.tlv_core.specs.Forest.{spelling, IsForest}
use Rattle.tlv_core.specs.Parts.{Placed, value_place, preorder, first_on}
use Rattle.tlv_core.specs.declared.node.Node.{Node}
use Rattle.tlv_core.specs.declared.node.Node.TheVariants as node
use Rattle.tlv_core.specs.declared.part.PlacedPart.{PlacedPart}
use Rattle.tlv_core.specs.Reasons.{Kept}
use Rattle.tlv_core.specs.Flat.{placed_of, HasGiven}
use Rattle.c_lent.specs.Verdict.{put_verdict, filled}
use Rattle.c_lent.specs.declared.verdict.Verdict.{Verdict}
use Rattle.c_lent.specs.declared.parts.CTag.{CTag}
use Rattle.c_lent.specs.declared.parts.CPart.{CPart}

-- the struct of a tag: its octets, padded with 00 to three, and how many it has
abbrev pub tag_shown : List ℕ → CTag
tag_shown tag = record { octets = padded tag; count = length tag }

-- the struct of an object, with the number of octets of its length field
abbrev pub part_shown : Placed → CPart
part_shown p = record {
  depth = p.depth;
  is_constructed = constructed_bit p.tag;
  len_octets = 1 + further p.form;
  tag =
      tag_shown p.tag;
  place = p.place;
  len = p.len;
}

-- the objects of a forest, each before those inside it
abbrev pub parts_shown : Tree → List CPart
parts_shown t = map part_shown (preorder 1 0 t)

-- ---- one part after another

-- the struct of a part from a walk
abbrev pub part_put : PlacedPart → CPart
part_put part = part_shown (placed_of part)

-- all the octets are a forest, and as many of its parts as fit are put into the array
pub record PutsParts (max : ℕ) (octets : List ℕ) (old new : List CPart) (v : Verdict) : Type 0 where
  pub tree : Tree
  pub forest : IsForest max tree octets
  pub verdict : v ≡ put_verdict (parts_shown tree) old
  pub array : new ≡ filled (parts_shown tree) old

-- all the octets are a forest with this many parts, and as many of them as fit are put into the array
pub record ArePut (max : ℕ) (octets : List ℕ) (old new : List CPart) (count : ℕ) : Type 0 where
  pub tree : Tree
  pub forest : IsForest max tree octets
  pub number : count ≡ length (parts_shown tree)
  pub array : new ≡ filled (parts_shown tree) old

-- A walk has returned these objects, this many. As many of them as fit were put into an array with this content.
pub record ArePutSoFar (max : ℕ) (octets : List ℕ) (old : List CPart) (walk : Kept) (out : List CPart) (count : ℕ)
    : Type 0 where
  pub given : List Placed
  pub has : HasGiven octets walk given
  pub limit : walk.max ≡ max
  pub within : count ≤ walk.count
  pub number : count ≡ length (map part_shown given)
  pub array : out ≡ filled (map part_shown given) old

-- ---- the first object on a path of tags

-- the octets of a tag from C
abbrev pub tag_of : CTag → List ℕ
tag_of t = take t.count t.octets

-- whether this is the tag of the path at this index
abbrev pub tag_is : Option CTag → List ℕ → Bool
tag_is None tag = false
tag_is (Some t) tag = bytes_eq (tag_of t) tag

-- whether a part is the next object of the path, if this many outer objects around it have the first tags
abbrev pub is_on : List CTag → ℕ → CPart → Bool
is_on path met p = (p.depth == met + 1) && tag_is (slice_get path met) (tag_of p.tag)

-- the parts from the first one that ends the path; the objects around them match this many tags of the path
abbrev pub found : List CTag → ℕ → List CPart → List CPart
found path met [] = []
found path met (p ∷ parts) =
    if is_on path (min met (p.depth - 1)) p
    then (if min met (p.depth - 1) + 1 == length path then p ∷ parts else found path (min met (p.depth - 1) + 1) parts)
    else found path (min met (p.depth - 1)) parts

-- the first of the two that there is
abbrev pub or_placed : Option Placed → Option Placed → Option Placed
or_placed None other = other
or_placed (Some p) other = Some p

-- The first object with the tag of a path of one. On a longer path, the first object that the rest of the path finds
-- inside an object with the first tag, such objects tried in order. The list is at depth d, its octets at this place.
abbrev pub first_placed : List (List ℕ) → ℕ → ℕ → Tree → Option Placed
first_placed [] d at t = None
first_placed (tag ∷ path) d at End = None
first_placed (tag ∷ path) d at (Filler rest) = first_placed (tag ∷ path) d (at + 1) rest
first_placed (tag ∷ []) d at (Primitive own form value rest) =
    cond (bytes_eq tag own) (Some (record
    { depth = d; tag = own; form = form; place = value_place at own form (length value); len = length value }))
    (first_placed (tag ∷ []) d (value_place at own form (length value) + length value) rest)
first_placed (tag ∷ next ∷ path) d at (Primitive own form value rest) =
    first_placed (tag ∷ next ∷ path) d (value_place at own form (length value) + length value) rest
first_placed (tag ∷ []) d at (Constructed own form nodes rest) =
    cond (bytes_eq tag own) (Some (record {
      depth = d;
      tag = own;
      form = form;
      place = value_place at own form (length (spelling nodes));
      len =
          length (spelling nodes);
    }))
    (first_placed (tag ∷ []) d (value_place at own form (length (spelling nodes)) + length (spelling nodes)) rest)
first_placed (tag ∷ next ∷ path) d at (Constructed own form nodes rest) =
    or_placed (cond (bytes_eq tag own) (first_placed (next ∷ path) (d + 1)
    (value_place at own form (length (spelling nodes))) nodes) None)
    (first_placed (tag ∷ next ∷ path) d (value_place at own form (length (spelling nodes)) + length (spelling nodes))
    rest)

abbrev pub first_shown : Option Placed → Option CPart
first_shown None = None
first_shown (Some p) = Some (part_shown p)

-- the node that tlv_core's own search returns, and this object, are the same
abbrev pub IsSameObject : Option Node → Option Placed → Type 0
IsSameObject None None = Unit {0}
IsSameObject None (Some p) = ⊥
IsSameObject (Some n) None = ⊥
IsSameObject (Some node.Filler) (Some p) = ⊥
IsSameObject (Some (node.Primitive tag form value)) (Some p) = (p.tag ≡ tag) × (p.form ≡ form) × (p.len ≡ length value)
IsSameObject (Some (node.Constructed tag form nodes)) (Some p) =
    (p.tag ≡ tag) × (p.form ≡ form) × (p.len ≡ length (spelling nodes))

-- on this path the parts of a forest have nothing, or the part of the object that tlv_core's `first` finds
pub record FindsFirst (path : List (List ℕ)) (t : Tree) (found : Option CPart) : Type 0 where
  pub is : found ≡ first_shown (first_placed path 1 0 t)
  pub same : IsSameObject (first_on path t) (first_placed path 1 0 t)
