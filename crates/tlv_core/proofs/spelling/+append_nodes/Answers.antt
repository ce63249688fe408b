use Rattle.std.proofs.Common.{◌≡◌, ◌++◌, ◌∷◌, [], List, ℕ, length, take, ◌+◌, sym, ap, subst, ◌∙◌, refl, arith, Vec, Global}
use Rattle.tlv_core.specs.Tree.{Tree, tree_size}
use Rattle.tlv_core.specs.Nodes.{tree_of}
use Rattle.tlv_core.specs.Forest.{spelling, IsProper}
use Rattle.tlv_core.proofs.Listed.{child_fewer, inside_at, value_at, added_node, by_filler, by_primitive, by_constructed}
use Rattle.tlv_core.proofs.spelling.+append_nodes.Goals as goal
use Rattle.tlv_core.proofs.spelling.+append_nodes.Goals.{in-Filler+in_ok-push-in-Filler, in-Primitive+in_ok-append_header-in-Primitive+in_ok-extend_from_slice-in-Primitive, in-Constructed+in_ok-append_header-in-Constructed+in_ok-append_nodes-in-Constructed}

pub append_header-requires : goal.append_header-requires
append_header-requires t c =
    let xs = c.get-node-items.result.now in
    let p = c.in-Primitive in
    let proper : IsProper c.requires.proper.0 (tree_of xs) =
    subst (IsProper c.requires.proper.0) (sym c.get-node-items.ensures) c.requires.proper.1 in
    let object = value_at xs c.loop-node.node-index c.requires.proper.0 c.node-item.result p.tag p.form p.value
    c.loop-node-test.true c.node-item.is p.is proper in
    omega (arith, object.fits, ap length c.get.ensures)

pub append_header-requires-in-Constructed : goal.append_header-requires-in-Constructed
append_header-requires-in-Constructed t c =
    let xs = c.get-node-items.result.now in
    let p = c.in-Constructed in
    let proper : IsProper c.requires.proper.0 (tree_of xs) =
    subst (IsProper c.requires.proper.0) (sym c.get-node-items.ensures) c.requires.proper.1 in
    let inside = inside_at xs c.loop-node.node-index c.requires.proper.0 c.node-item.result p.tag p.form p.nodes
    c.loop-node-test.true c.node-item.is p.is proper in
    omega (arith, inside.object.fits, c.octets_of.ensures.count)

pub append_nodes-requires : goal.append_nodes-requires
append_nodes-requires t c =
    let xs = c.get-node-items.result.now in
    let p = c.in-Constructed in
    let proper : IsProper c.requires.proper.0 (tree_of xs) =
    subst (IsProper c.requires.proper.0) (sym c.get-node-items.ensures) c.requires.proper.1 in
    let inside = inside_at xs c.loop-node.node-index c.requires.proper.0 c.node-item.result p.tag p.form p.nodes
    c.loop-node-test.true c.node-item.is p.is proper in
    let fewer = child_fewer xs c.loop-node.node-index p.tag p.form p.nodes c.node-item.result c.loop-node-test.true
    c.node-item.is p.is in (
      omega (arith, fewer, c.decreases, ap tree_size c.get-node-items.ensures),
      (
        (c.requires.proper.0 + 1, inside.proper),
        omega (arith, inside.size, c.requires.size, ap (λ (l : Tree). length (spelling l)) c.get-node-items.ensures),
      ),
    )

pub loop-node-preserved : goal.loop-node-preserved
loop-node-preserved t c =
    let xs = c.get-node-items.result.now in
    let old = c.args.out.now.items in
    let i = c.loop-node.node-index in
    let x = c.node-item.result in
    let front = spelling (tree_of (take i xs)) in
    let a = old ++ front in
    let lt = c.loop-node-test.true in
    let more : (now : List ℕ) → now ≡ a ++ spelling (tree_of (x ∷ [])) → now ≡ old
    ++ spelling (tree_of (take (i + 1) xs)) = λ now is. added_node now old front xs i x lt c.node-item.is is refl in
    elim c.match-node.branch [
      | in-Filler+in_ok-push-in-Filler w ↦
          more c.match-node.out.items (by_filler c.match-node.out.items c.loop-node.out.items a x
          (ap (λ (v : Vec ℕ Global). v.items) w.out-is ∙ w.in_ok-push-in-Filler.ensures.items) c.loop-node.invariant
          w.in-Filler.is)
      | in-Primitive+in_ok-append_header-in-Primitive+in_ok-extend_from_slice-in-Primitive w ↦
          let p = w.in-Primitive in
          more c.match-node.out.items
          (
          by_primitive c.match-node.out.items w.append_header.new.out.items c.loop-node.out.items a w.get.result.now
          w.get-in-Primitive.result.now p.tag p.form p.value x
          (ap (λ (v : Vec ℕ Global). v.items) w.out-is ∙ w.in_ok-extend_from_slice-in-Primitive.ensures.items)
          w.in_ok-append_header-in-Primitive.ensures c.loop-node.invariant w.get.ensures w.get-in-Primitive.ensures p.is
          )
      | in-Constructed+in_ok-append_header-in-Constructed+in_ok-append_nodes-in-Constructed w ↦
          let p = w.in-Constructed in
          let proper : IsProper c.requires.proper.0 (tree_of xs) =
          subst (IsProper c.requires.proper.0) (sym c.get-node-items.ensures) c.requires.proper.1 in
          let inside = inside_at xs i c.requires.proper.0 x p.tag p.form p.nodes lt c.node-item.is p.is proper in
          let len : w.octets_of.result ≡ length (spelling p.nodes) =
          omega (
            arith,
            w.octets_of.ensures.count,
            inside.size,
            c.requires.size,
            ap (λ (l : Tree). length (spelling l)) c.get-node-items.ensures,
          ) in
          more c.match-node.out.items
          (
          by_constructed c.match-node.out.items w.append_header-in-Constructed.new.out.items c.loop-node.out.items a
          w.octets_of.result p.tag p.form p.nodes x
          (ap (λ (v : Vec ℕ Global). v.items) w.out-is ∙ w.in_ok-append_nodes-in-Constructed.ensures)
          w.in_ok-append_header-in-Constructed.ensures c.loop-node.invariant len p.is
          )
    ]
