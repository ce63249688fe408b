use Rattle.std.proofs.Common.{◌≡◌, ◌+◌, length, take, [], ◌∷◌, sym, ap, subst, ◌∙◌, arith}
use Rattle.tlv_core.specs.declared.node.Node.{Node}
use Rattle.tlv_core.specs.Tree.{tree_size}
use Rattle.tlv_core.specs.Nodes.{tree_of}
use Rattle.tlv_core.specs.Tag.{header_of}
use Rattle.tlv_core.specs.Improper.{AreObjects}
use Rattle.tlv_core.specs.Forest.{spelling}
use Rattle.tlv_core.proofs.Listed.{child_fewer, more_octets, length-header, length_primitive, length_constructed, objects_more}
use Rattle.tlv_core.proofs.survey.+octets_of.Goals as goal
use Rattle.tlv_core.proofs.survey.+octets_of.Goals.{in-Filler, in-Primitive, in-Constructed}

pub octets_of-requires : goal.octets_of-requires
octets_of-requires t c =
    let xs = c.get-node-items.result.now in
    let fewer = child_fewer xs c.loop-node.node-index c.in-Constructed.tag c.in-Constructed.form c.in-Constructed.nodes
    c.node-item.result c.loop-node-test.true c.node-item.is c.in-Constructed.is in
    (omega (arith, fewer, c.decreases, ap tree_size c.get-node-items.ensures), tt)

pub loop-node-preserved : goal.loop-node-preserved
loop-node-preserved t c =
    let xs = c.get-node-items.result.now in
    let more = more_octets xs c.loop-node.node-index c.node-item.result c.loop-node-test.true c.node-item.is in
    let objects : AreObjects (tree_of (c.node-item.result ∷ []))
    → AreObjects (tree_of (take (c.loop-node.node-index + 1) xs)) =
    objects_more xs c.loop-node.node-index c.node-item.result c.loop-node-test.true c.node-item.is
    c.loop-node.invariant.1 in
    elim c.match-node.branch [
      | in-Filler w ↦
          let len : length (spelling (tree_of (c.node-item.result ∷ []))) ≡ 1 =
          ap (λ (x : Node). length (spelling (tree_of (x ∷ [])))) w.in-Filler.is in (
            omega (arith, more, c.loop-node.invariant.0, c.saturating_add-total.ensures, w.octets-is, len),
            objects (subst (λ (z : Node). AreObjects (tree_of (z ∷ []))) (sym w.in-Filler.is) tt),
          )
      | in-Primitive w ↦
          let p = w.in-Primitive in
          let len : length (spelling (tree_of (c.node-item.result ∷ []))) ≡ length
          (header_of p.tag p.form (length p.value)) + length p.value =
          ap (λ (x : Node). length (spelling (tree_of (x ∷ [])))) p.is ∙ length_primitive p.tag p.form p.value in (
            omega (
              arith,
              more,
              c.loop-node.invariant.0,
              c.saturating_add-total.ensures,
              w.octets-is,
              w.octets_with-octets.ensures.count,
              w.value_len.ensures.count,
              len,
              length-header p.tag p.form (length p.value),
            ),
            objects (subst (λ (z : Node). AreObjects (tree_of (z ∷ []))) (sym p.is)
                (w.octets_with-octets.ensures.tag, w.value_len.ensures.octets, tt)),
          )
      | in-Constructed w ↦
          let p = w.in-Constructed in
          let len : length (spelling (tree_of (c.node-item.result ∷ []))) ≡ length
          (header_of p.tag p.form (length (spelling p.nodes))) + length (spelling p.nodes) =
          ap (λ (x : Node). length (spelling (tree_of (x ∷ [])))) p.is ∙ length_constructed p.tag p.form p.nodes in (
            omega (
              arith,
              more,
              c.loop-node.invariant.0,
              c.saturating_add-total.ensures,
              w.octets-is,
              w.octets_with-octets-in-Constructed.ensures.count,
              w.octets_of.ensures.count,
              len,
              length-header p.tag p.form (length (spelling p.nodes)),
            ),
            objects (subst (λ (z : Node). AreObjects (tree_of (z ∷ []))) (sym p.is)
                (w.octets_with-octets-in-Constructed.ensures.tag, w.octets_of.ensures.objects, tt)),
          )
    ]
