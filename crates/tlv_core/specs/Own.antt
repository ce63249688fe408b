-- A node by itself.
use Rattle.std.specs.Prelude.{ℕ, List, length, Bool, false, bytes_eq}
use Rattle.tlv_core.specs.Forest.{spelling}
use Rattle.tlv_core.specs.declared.form.Form.{Form}
use Rattle.tlv_core.specs.declared.node.Node.{Node}
use Rattle.tlv_core.specs.declared.node.Node.TheVariants as node

-- the node is an object, and `Is` holds for it
abbrev pub OwnIs : (ℕ → ℕ → List ℕ → Form → ℕ → Type 0) → ℕ → Node → Type 0
OwnIs Is d node.Filler = ⊥
OwnIs Is d (node.Primitive tag form value) = Is d 0 tag form (length value)
OwnIs Is d (node.Constructed tag form nodes) = Is d 1 tag form (length (spelling nodes))

-- the node is an object with this tag
abbrev pub own_tag_is : List ℕ → Node → Bool
own_tag_is tag node.Filler = false
own_tag_is tag (node.Primitive own form value) = bytes_eq tag own
own_tag_is tag (node.Constructed own form nodes) = bytes_eq tag own
