-- Lists of objects that are the same.
use Rattle.std.proofs.Common.{◌≡◌, ℕ, ◌+◌, ◌<◌, ◌≤◌, List, [], ◌∷◌, ◌++◌, length, take, take_all, map, get_or, Decides, nat_eq, refl, sym, ap, ◌∙◌, arith, suc, zero, rules}
use Rattle.std.specs.Cmp.Lexicographic.{pointwise, pointwise_decides}
use Rattle.tlv_core.specs.declared.form.Form.{Form}
use Rattle.tlv_core.specs.declared.node.Node.{Node}
use Rattle.tlv_core.specs.declared.node.Node.TheVariants as node
use Rattle.tlv_core.specs.Form.{further, form_of, form_back}
use Rattle.tlv_core.specs.Tree.{Tree, End, Filler, Primitive, Constructed, tree_size}
use Rattle.tlv_core.specs.TreeCode.{Item, items_of, one_tree}
use Rattle.tlv_core.specs.Nodes.{tree_of}
use Rattle.tlv_core.specs.declared.part.Part.{Part}
use Rattle.tlv_core.specs.Flat.{PartValue, part_seen}
use Rattle.tlv_core.specs.Same.{same_item, same_tree, same_node, same_part}

-- comparing two lists of octets tells whether they are one
pub octets_decide : (xs ys : List ℕ) → Decides (pointwise nat_eq xs ys) (xs ≡ ys)
octets_decide = pointwise_decides (λ x y. search rules)

-- forms with as many further octets are one
pub one_form : (f g : Form) → further f ≡ further g → f ≡ g
one_form f g e = sym (form_back f) ∙ ap form_of e ∙ form_back g

-- the nodes of a list
abbrev nodes_of : Tree → List Node
nodes_of End = []
nodes_of (Filler rest) = node.Filler ∷ nodes_of rest
nodes_of (Primitive tag form value rest) = node.Primitive tag form value ∷ nodes_of rest
nodes_of (Constructed tag form nodes rest) = node.Constructed tag form nodes ∷ nodes_of rest

nodes_back : (xs : List Node) → nodes_of (tree_of xs) ≡ xs
nodes_back [] = refl
nodes_back (node.Filler ∷ xs) = ap (λ (l : List Node). node.Filler ∷ l) (nodes_back xs)
nodes_back (node.Primitive tag form value ∷ xs) =
    ap (λ (l : List Node). node.Primitive tag form value ∷ l) (nodes_back xs)
nodes_back (node.Constructed tag form nodes ∷ xs) =
    ap (λ (l : List Node). node.Constructed tag form nodes ∷ l) (nodes_back xs)

-- nodes that make one tree are one list
pub one_list : (xs ys : List Node) → tree_of xs ≡ tree_of ys → xs ≡ ys
one_list xs ys e = sym (nodes_back xs) ∙ ap nodes_of e ∙ nodes_back ys

first_node : {x y : Node} {xs ys : List Node} → x ∷ xs ≡ y ∷ ys → x ≡ y
first_node e = cc

-- and nodes whose lists of one make one tree are one
pub one_node : (x y : Node) → tree_of (x ∷ []) ≡ tree_of (y ∷ []) → x ≡ y
one_node x y e = first_node (one_list (x ∷ []) (y ∷ []) e)

alone : (y : Node) (xs : List Node) → tree_size (tree_of (y ∷ [])) ≤ tree_size (tree_of (y ∷ xs))
alone node.Filler xs = omega arith
alone (node.Primitive tag form value) xs = omega arith
alone (node.Constructed tag form nodes) xs = omega arith

after : (y : Node) (xs : List Node) → tree_size (tree_of xs) ≤ tree_size (tree_of (y ∷ xs))
after node.Filler xs = omega arith
after (node.Primitive tag form value) xs = omega arith
after (node.Constructed tag form nodes) xs = omega arith

-- no node of a list weighs more than the list
pub lighter : (xs : List Node) (i : ℕ) (x : Node) → i < length xs → x ≡ get_or xs i x
    → tree_size (tree_of (x ∷ [])) ≤ tree_size (tree_of xs)
lighter [] i x lt e = absurd (omega arith)
lighter (y ∷ xs) zero x lt e = omega (arith, ap (λ (z : Node). tree_size (tree_of (z ∷ []))) e, alone y xs)
lighter (y ∷ xs) (suc i) x lt e = omega (arith, lighter xs i x (omega arith) e, after y xs)

item_decides : (x y : Item) → Decides (same_item x y) (x ≡ y)
item_decides x y = search (rules, octets_decide, one_form)

-- comparing two lists of objects tells whether they are one
pub tree_decides : (s t : Tree) → Decides (same_tree s t) (s ≡ t)
tree_decides s t = let d = pointwise_decides item_decides (items_of s) (items_of t) in
    (λ e. one_tree s t (d.0 e), λ e. d.1 (ap items_of e))

-- and so it does with two nodes
pub node_decides : (x y : Node) → Decides (same_node x y) (x ≡ y)
node_decides x y = let d = tree_decides (tree_of (x ∷ [])) (tree_of (y ∷ [])) in
    (λ e. one_node x y (d.0 e), λ e. d.1 (ap (λ (z : Node). tree_of (z ∷ [])) e))

-- ---- parts

part_decides : (x y : PartValue) → Decides (same_part x y) (x ≡ y)
part_decides x y = search (rules, octets_decide, one_form)

-- comparing two lists of parts tells whether they are one
pub parts_decide : (xs ys : List PartValue) → Decides (pointwise same_part xs ys) (xs ≡ ys)
parts_decide = pointwise_decides part_decides

-- the part at a place, as it is seen
pub seen_at : (xs : List Part) (i : ℕ) (x : Part) → i < length xs → x ≡ get_or xs i x
    → part_seen x ≡ get_or (map part_seen xs) i (part_seen x)
seen_at [] i x lt e = absurd (omega arith)
seen_at (y ∷ xs) zero x lt e = ap part_seen e
seen_at (y ∷ xs) (suc i) x lt e = seen_at xs i x (omega arith) e

-- ---- lists by place

module _ {A : Type 0} where
  at_place : (xs : List A) (i : ℕ) (x y : A) → i < length xs → get_or xs i x ≡ get_or xs i y
  at_place [] i x y lt = absurd (omega arith)
  at_place (z ∷ xs) zero x y lt = refl
  at_place (z ∷ xs) (suc i) x y lt = at_place xs i x y (omega arith)

  take_more : (xs : List A) (i : ℕ) (x : A) → i < length xs → x ≡ get_or xs i x → take (i + 1) xs ≡ take i xs ++ x ∷ []
  take_more [] i x lt e = absurd (omega arith)
  take_more (y ∷ xs) zero x lt e = ap (λ (z : A). z ∷ []) (sym e)
  take_more (y ∷ xs) (suc i) x lt e = let more : suc i + 1 ≡ suc (i + 1) =
      omega arith in ap (λ (k : ℕ). take k (y ∷ xs)) more
      ∙ ap (λ (l : List A). y ∷ l) (take_more xs i x (omega arith) e)

  -- one more of each, which is the same
  pub more_alike : (xs ys : List A) (i : ℕ) (x y : A) → i < length xs → i < length ys → x ≡ get_or xs i x
      → y ≡ get_or ys i y → x ≡ y → take i xs ≡ take i ys → take (i + 1) xs ≡ take (i + 1) ys
  more_alike xs ys i x y lt lt' at at' e h =
      take_more xs i x lt at ∙ ap (λ (l : List A). l ++ x ∷ []) h ∙ ap (λ (z : A). take i ys ++ z ∷ []) e
      ∙ sym (take_more ys i y lt' at')

  -- those at one place of one list are one
  pub one_at : (xs ys : List A) (i : ℕ) (x y : A) → i < length xs → x ≡ get_or xs i x → y ≡ get_or ys i y → xs ≡ ys
      → x ≡ y
  one_at xs ys i x y lt at at' e = at ∙ at_place xs i x y lt ∙ ap (λ (l : List A). get_or l i y) e ∙ sym at'

  -- lists that are the same up to their ends are one
  pub whole_alike : (xs ys : List A) (i : ℕ) → length xs ≤ i → length ys ≤ i → take i xs ≡ take i ys → xs ≡ ys
  whole_alike xs ys i le le' h = sym (take_all i xs le) ∙ h ∙ take_all i ys le'
