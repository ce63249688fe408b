use Rattle.std.proofs.Common.{◌≡◌, ◌∷◌, [], List, ℕ, length, sym, ap, ◌∙◌, arith, Vec, Global}
use Rattle.tlv_core.specs.declared.form.Form.{Form}
use Rattle.tlv_core.specs.declared.node.Node.{Node}
use Rattle.tlv_core.specs.declared.node.Node.TheVariants as node
use Rattle.tlv_core.specs.Form.{shortest}
use Rattle.tlv_core.specs.Tree.{Tree, tree_size}
use Rattle.tlv_core.specs.Tidy.{tidy}
use Rattle.tlv_core.specs.Nodes.{tree_of}
use Rattle.tlv_core.specs.Forest.{spelling}
use Rattle.tlv_core.proofs.Listed.{child_fewer, tidy_filler, tidy_pushed, shortest_min}
use Rattle.tlv_core.proofs.tidying.+tidy_nodes.Goals as goal
use Rattle.tlv_core.proofs.tidying.+tidy_nodes.Goals.{in-Filler, in-Primitive+in_ok-primitive-in-Primitive+in_ok-push-in-Primitive, in-Constructed+in_ok-nodes-in-Constructed+in_ok-push-in-Constructed}

pub tidy_nodes-requires : goal.tidy_nodes-requires
tidy_nodes-requires t c =
    let xs = c.get-node-items.result.now in
    let p = c.in-Constructed in
    let fewer = child_fewer xs c.loop-node.node-index p.tag p.form p.nodes c.node-item.result c.loop-node-test.true
    c.node-item.is p.is in
    (omega (arith, fewer, c.decreases, ap tree_size c.get-node-items.ensures), tt)

pub loop-node-preserved : goal.loop-node-preserved
loop-node-preserved t c =
    let xs = c.get-node-items.result.now in
    let i = c.loop-node.node-index in
    let x = c.node-item.result in
    let done = c.loop-node.list.items in
    let now = c.match-node.list.items in
    let lt = c.loop-node-test.true in
    elim c.match-node.branch [
      | in-Filler w ↦ tidy_filler xs i x done now lt c.node-item.is w.in-Filler.is
          (ap (λ (v : Vec Node Global). v.items) w.list-is) c.loop-node.invariant
      | in-Primitive+in_ok-primitive-in-Primitive+in_ok-push-in-Primitive w ↦
          let p = w.in-Primitive in
          let y = w.in_ok-primitive-in-Primitive.field-0 in
          let is : y ≡ node.Primitive p.tag (shortest (length p.value)) p.value =
          w.in_ok-primitive-in-Primitive.ensures
          ∙ ap (λ (v : List ℕ). node.Primitive p.tag (shortest (length v)) v) w.get.ensures in
          let tidied : tree_of (y ∷ []) ≡ tidy (tree_of (x ∷ [])) =
          ap (λ (z : Node). tree_of (z ∷ [])) is ∙ ap (λ (z : Node). tidy (tree_of (z ∷ []))) (sym p.is) in
          tidy_pushed xs i x y done now lt c.node-item.is tidied
          (ap (λ (v : Vec Node Global). v.items) w.list-is ∙ w.in_ok-push-in-Primitive.ensures.items)
          c.loop-node.invariant
      | in-Constructed+in_ok-nodes-in-Constructed+in_ok-push-in-Constructed w ↦
          let p = w.in-Constructed in
          let nodes : Tree = w.in_ok-nodes-in-Constructed.nodes in
          let form : w.shortest-form.result ≡ shortest (length (spelling nodes)) =
          w.shortest-form.ensures ∙ ap shortest w.octets_of.ensures.count
          ∙ shortest_min (length (spelling nodes)) in
          let y : Node = node.Constructed p.tag w.shortest-form.result nodes in
          let is : y ≡ node.Constructed p.tag (shortest (length (spelling (tidy p.nodes)))) (tidy p.nodes) =
          ap (λ (f : Form). node.Constructed p.tag f nodes) form
          ∙ ap (λ (l : Tree). node.Constructed p.tag (shortest (length (spelling l))) l)
          w.in_ok-nodes-in-Constructed.ensures in
          let tidied : tree_of (y ∷ []) ≡ tidy (tree_of (x ∷ [])) =
          ap (λ (z : Node). tree_of (z ∷ [])) is ∙ ap (λ (z : Node). tidy (tree_of (z ∷ []))) (sym p.is) in
          tidy_pushed xs i x y done now lt c.node-item.is tidied
          (ap (λ (v : Vec Node Global). v.items) w.list-is ∙ w.in_ok-push-in-Constructed.ensures.items)
          c.loop-node.invariant
    ]
