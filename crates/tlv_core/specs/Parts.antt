-- The objects of a forest in preorder, and the first object on a path of tags.
use Rattle.std.specs.Prelude.{ℕ, ◌+◌, List, [], ◌∷◌, ◌++◌, length, cond, bytes_eq, Option, Some, None}
use Rattle.tlv_core.specs.Tag.{header_of}
use Rattle.tlv_core.specs.Tree.{Tree, End, Filler, Primitive, Constructed}
use Rattle.tlv_core.specs.Forest.{spelling}
use Rattle.tlv_core.specs.declared.form.Form.{Form}
use Rattle.tlv_core.specs.declared.node.Node.{Node}
use Rattle.tlv_core.specs.declared.node.Node.TheVariants as node

-- an object, and the place of its value in the octets of the forest; the value of a constructed one is the encoding of
-- its nodes
pub record Placed : Type 0 where
  pub depth : ℕ
  pub tag : List ℕ
  pub form : Form
  pub place : ℕ
  pub len : ℕ

-- the place after the header of an object that begins at this place
abbrev pub value_place : ℕ → List ℕ → Form → ℕ → ℕ
value_place place tag form n = place + length (header_of tag form n)

-- the objects of a list at depth d whose octets begin at this place, each before its nodes
abbrev pub preorder : ℕ → ℕ → Tree → List Placed
preorder d place End = []
preorder d place (Filler rest) = preorder d (place + 1) rest
preorder d place (Primitive tag form value rest) =
    record { depth = d; tag = tag; form = form; place = value_place place tag form (length value); len = length value }
    ∷ preorder d (value_place place tag form (length value) + length value) rest
preorder d place (Constructed tag form nodes rest) =
    record {
      depth = d;
      tag = tag;
      form = form;
      place = value_place place tag form (length (spelling nodes));
      len =
          length (spelling nodes);
    }
    ∷ (preorder (d + 1) (value_place place tag form (length (spelling nodes))) nodes
    ++ preorder d (value_place place tag form (length (spelling nodes)) + length (spelling nodes)) rest)

-- the first one if there is one, else the other
abbrev pub or_else : Option Node → Option Node → Option Node
or_else None other = other
or_else (Some n) other = Some n

-- A path of one tag finds the first object with that tag. A longer path tries the objects with its first tag in order,
-- and finds the first object that the rest of the path finds in their nodes. The empty path finds nothing.
abbrev pub first_on : List (List ℕ) → Tree → Option Node
first_on [] t = None
first_on (tag ∷ []) End = None
first_on (tag ∷ []) (Filler rest) = first_on (tag ∷ []) rest
first_on (tag ∷ []) (Primitive own form value rest) =
    cond (bytes_eq tag own) (Some (node.Primitive own form value)) (first_on (tag ∷ []) rest)
first_on (tag ∷ []) (Constructed own form nodes rest) =
    cond (bytes_eq tag own) (Some (node.Constructed own form nodes)) (first_on (tag ∷ []) rest)
first_on (tag ∷ next ∷ path) End = None
first_on (tag ∷ next ∷ path) (Filler rest) = first_on (tag ∷ next ∷ path) rest
first_on (tag ∷ next ∷ path) (Primitive own form value rest) = first_on (tag ∷ next ∷ path) rest
first_on (tag ∷ next ∷ path) (Constructed own form nodes rest) =
    or_else (cond (bytes_eq tag own) (first_on (next ∷ path) nodes) None) (first_on (tag ∷ next ∷ path) rest)
