-- When two lists of objects, or two parts, are equal.
use Rattle.std.specs.Prelude.{Bool, [], ◌∷◌, ◌==◌}
use Rattle.std.specs.Ordering.{on, eq_of_both}
use Rattle.std.specs.Cmp.{IsEquivalence}
use Rattle.std.proofs.lemmas.Cmp.{on_equiv, and_equiv, lists_equiv, nat_eq_equiv, nat_list_eq_equiv}
use lib.Pointwise.{pointwise}
use Rattle.tlv_core.specs.declared.node.Node.{Node}
use Rattle.tlv_core.specs.Form.{further}
use Rattle.tlv_core.specs.Tree.{Tree}
use Rattle.tlv_core.specs.TreeCode.{Item, items_of}
use Rattle.tlv_core.specs.Nodes.{tree_of}
use Rattle.tlv_core.specs.Flat.{PartValue}

-- the items have the same kind, tag, form and value
abbrev pub same_item : Item → Item → Bool
same_item = eq_of_both (on (λ i. i.0) ◌==◌)
    (eq_of_both (on (λ i. i.1.0) (pointwise ◌==◌))
    (eq_of_both (on (λ i. further i.1.1.0) ◌==◌) (on (λ i. i.1.1.1) (pointwise ◌==◌))))

-- the lists have the same items, in the same order
abbrev pub same_tree : Tree → Tree → Bool
same_tree = on items_of (pointwise same_item)

-- two nodes are equal if the lists of each alone are
abbrev pub same_node : Node → Node → Bool
same_node = on (λ node. tree_of (node ∷ [])) same_tree

-- the parts have the same depth, tag, form, place and value
abbrev pub same_part : PartValue → PartValue → Bool
same_part = eq_of_both (on (λ p. p.depth) ◌==◌)
    (eq_of_both (on (λ p. p.tag) (pointwise ◌==◌))
    (eq_of_both (on (λ p. further p.form) ◌==◌)
    (eq_of_both (on (λ p. p.place) ◌==◌) (on (λ p. p.value) (pointwise ◌==◌)))))

-- ---- the laws of these comparisons

items_equiv : IsEquivalence (pointwise same_item)
items_equiv = lists_equiv (and_equiv (on_equiv (λ i. i.0) nat_eq_equiv)
    (and_equiv (on_equiv (λ i. i.1.0) nat_list_eq_equiv)
    (and_equiv (on_equiv (λ i. further i.1.1.0) nat_eq_equiv) (on_equiv (λ i. i.1.1.1) nat_list_eq_equiv))))

-- `same_tree` is an equivalence of lists of objects
pub tree_equiv : IsEquivalence same_tree
tree_equiv = on_equiv items_of items_equiv

-- `same_node` is an equivalence of nodes
pub node_equiv : IsEquivalence same_node
node_equiv = on_equiv (λ node. tree_of (node ∷ [])) tree_equiv

-- `same_part`, item by item, is an equivalence of lists of parts
pub parts_equiv : IsEquivalence (pointwise same_part)
parts_equiv = lists_equiv (and_equiv (on_equiv (λ p. p.depth) nat_eq_equiv)
    (and_equiv (on_equiv (λ p. p.tag) nat_list_eq_equiv)
    (and_equiv (on_equiv (λ p. further p.form) nat_eq_equiv)
    (and_equiv (on_equiv (λ p. p.place) nat_eq_equiv) (on_equiv (λ p. p.value) nat_list_eq_equiv)))))
