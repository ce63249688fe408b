-- The parts of a forest, each with its value.
use Rattle.std.specs.Prelude.{◌≡◌, ℕ, ◌+◌, ◌<◌, ◌≤◌, List, [], ◌∷◌, ◌++◌, length, take, drop, map, Option, Some, None, Result, Ok, Err}
use Rattle.octet_core.specs.declared.stop.Stop.{Stop}
use Rattle.tlv_core.specs.declared.form.Form.{Form}
use Rattle.tlv_core.specs.declared.header.ObjectHeader.{ObjectHeader}
use Rattle.tlv_core.specs.declared.part.Part.{Part}
use Rattle.tlv_core.specs.declared.part.PlacedPart.{PlacedPart}
use Rattle.tlv_core.specs.Tree.{Tree, End, Filler, Primitive, Constructed}
use Rattle.tlv_core.specs.Form.{capacity}
use Rattle.tlv_core.specs.Forest.{spelling, IsForest}
use Rattle.tlv_core.specs.declared.reason.TlvReason.{TlvReason}
use Rattle.tlv_core.specs.Parts.{Placed, value_place, preorder}
use Rattle.tlv_core.specs.Reasons.{Kept, HasTaken}
use Rattle.tlv_core.specs.Grown.{Opened, ValueSoFar, Grown, HasGrown}

-- an object with the octets of its value, and their place in the octets of the forest
pub record PartValue : Type 0 where
  pub depth : ℕ
  pub tag : List ℕ
  pub form : Form
  pub place : ℕ
  pub value : List ℕ

-- the object at this place in the octets b
abbrev pub part_in : List ℕ → Placed → PartValue
part_in b p = record {
  depth = p.depth;
  tag = p.tag;
  form = p.form;
  place = p.place;
  value =
      take p.len (drop p.place b);
}

-- the parts of the forest that the octets b encode
abbrev pub parts_in : List ℕ → Tree → List PartValue
parts_in b t = map (part_in b) (preorder 1 0 t)

-- the objects of a list at depth d whose octets begin at this place, each before its nodes; the value of a constructed
-- one is the encoding of its nodes
abbrev pub parts_of : ℕ → ℕ → Tree → List PartValue
parts_of d at End = []
parts_of d at (Filler rest) = parts_of d (at + 1) rest
parts_of d at (Primitive tag form value rest) =
    record { depth = d; tag = tag; form = form; place = value_place at tag form (length value); value = value } ∷
    parts_of d (value_place at tag form (length value) + length value) rest
parts_of d at (Constructed tag form nodes rest) =
    record {
      depth = d;
      tag = tag;
      form = form;
      place = value_place at tag form (length (spelling nodes));
      value =
          spelling nodes;
    }
    ∷ (parts_of (d + 1) (value_place at tag form (length (spelling nodes))) nodes
    ++ parts_of d (value_place at tag form (length (spelling nodes)) + length (spelling nodes)) rest)

-- what contracts see of a part with a borrowed value
abbrev pub part_seen : Part → PartValue
part_seen part = record {
  depth = part.depth;
  tag = part.tag;
  form = part.form;
  place = part.place;
  value =
      part.value.now;
}

-- what contracts see of a part that is kept by its place alone
abbrev pub placed_of : PlacedPart → Placed
placed_of part = record { depth = part.depth; tag = part.tag; form = part.form; place = part.place; len = part.len }

-- an object with this header, at this depth, whose value begins at this place
abbrev pub placed_from : ℕ → ℕ → ObjectHeader → Placed
placed_from d place o = record { depth = d; tag = o.tag; form = o.form; place = place; len = o.len }

-- ---- the objects so far

-- an object at depth d whose header begins at this place
abbrev pub placed_at : ℕ → ℕ → List ℕ → Form → ℕ → Placed
placed_at d place tag form n = record {
  depth = d;
  tag = tag;
  form = form;
  place = value_place place tag form n;
  len =
      n;
}

-- the object whose value is being read, if there is one, with its header at this place
abbrev pub placed_value : ℕ → ℕ → Option ValueSoFar → List Placed
placed_value d place None = []
placed_value d place (Some v) = placed_at d place v.tag v.form v.len ∷ []

-- the open objects, each after the objects of the list before it, and then those of the innermost list
abbrev pub placed_in : ℕ → ℕ → List Opened → (ℕ → ℕ → List Placed) → List Placed
placed_in d place [] inner = inner d place
placed_in d place (o ∷ opened) inner =
    preorder d place o.before
    ++ (placed_at d (place + length (spelling o.before)) o.tag o.form o.len ∷ placed_in (d + 1)
    (value_place (place + length (spelling o.before)) o.tag o.form o.len) opened inner)

-- the objects of a list, and the object after it whose value is being read
abbrev pub placed_list : Tree → Option ValueSoFar → ℕ → ℕ → List Placed
placed_list list value d place = preorder d place list ++ placed_value d (place + length (spelling list)) value

-- the objects of the tree so far, including those that are open or whose value is being read
abbrev pub placed : Grown → List Placed
placed g = placed_in 1 0 g.opened (placed_list g.list g.value)

-- ---- a walk over the objects of a forest

-- A walk over the octets b with this state has returned these parts. The state has taken the first octets, and the
-- parts are the objects whose header is among them.
pub record HasGiven (b : List ℕ) (k : Kept) (parts : List Placed) : Type 0 where
  pub within : k.count ≤ length b
  pub taken : HasTaken (take k.count b) k
  pub tree : Grown
  pub grown : HasGrown (take k.count b) k tree
  pub are : parts ≡ placed tree

-- the octets b are a forest, and these are its objects
pub record AreAllParts (max : ℕ) (b : List ℕ) (parts : List Placed) : Type 0 where
  pub tree : Tree
  pub forest : IsForest max tree b
  pub are : parts ≡ preorder 1 0 tree

-- the parts that one call of a walk returns: one or none
abbrev pub given_by : Result (Option PlacedPart) (Stop TlvReason) → List Placed
given_by (Ok (Some part)) = placed_of part ∷ []
given_by (Ok None) = []
given_by (Err stop) = []

-- the header of the object is in the octets b, and its length fits its form
abbrev pub IsInside : List ℕ → PlacedPart → Type 0
IsInside b part = (part.place ≤ length b) × (part.len < capacity part.form)
