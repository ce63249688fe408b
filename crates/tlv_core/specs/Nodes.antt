-- What contracts see of a list of nodes.
use Rattle.std.specs.Prelude.{List, [], ◌∷◌}
use Rattle.tlv_core.specs.Tree.{Tree, End, Filler, Primitive, Constructed}
use Rattle.tlv_core.specs.declared.node.Node.{Node}
use Rattle.tlv_core.specs.declared.node.Node.TheVariants as node

-- a list of nodes as a tree, with the lists inside it
abbrev pub tree_of : List Node → Tree
tree_of [] = End
tree_of (node.Filler ∷ rest) = Filler (tree_of rest)
tree_of (node.Primitive tag form value ∷ rest) = Primitive tag form value (tree_of rest)
tree_of (node.Constructed tag form nodes ∷ rest) = Constructed tag form nodes (tree_of rest)
