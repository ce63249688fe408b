use Rattle.std.proofs.Common.{◌≡◌, ◌+◌, List, ℕ, take, sym, ap, subst, ◌∙◌, refl, arith}
use Rattle.std.proofs.lemmas.Bool.{false≢true}
use Rattle.tlv_core.specs.declared.form.Form.{Form}
use Rattle.tlv_core.specs.declared.node.Node.TheVariants as node
use Rattle.tlv_core.specs.Tree.{Tree, tree_size}
use Rattle.tlv_core.specs.Nodes.{tree_of}
use Rattle.tlv_core.specs.Improper.{SomeObject, HasFault}
use Rattle.tlv_core.specs.Own.{OwnIs}
use Rattle.tlv_core.proofs.Listed.{child_fewer}
use Rattle.tlv_core.proofs.Somewhere.{some_own, some_inner, none_more, same_nodes, one_deeper}
use Rattle.tlv_core.proofs.survey.+has_fault.Goals as goal
use Rattle.tlv_core.proofs.survey.+has_fault.Goals.{in-Constructed+else-has_fault, in_default}

pub returns-then-is_faulty : goal.returns-then-is_faulty
returns-then-is_faulty t c =
    let Is = HasFault c.args.fault in
    let xs = c.get-node-items.result.now in
    let some = some_own Is c.args.depth xs c.loop-node.node-index c.node-item.result c.loop-node-test.true
    c.node-item.is (c.is_faulty.ensures.0 c.if-is_faulty.true) in
    (λ _. subst (SomeObject Is c.args.depth) c.get-node-items.ensures some, λ _. refl)

pub has_fault-requires : goal.has_fault-requires
has_fault-requires t c =
    let xs = c.get-node-items.result.now in
    let p = c.in-Constructed in
    let fewer = child_fewer xs c.loop-node.node-index p.tag p.form p.nodes c.node-item.result c.loop-node-test.true
    c.node-item.is p.is in
    (omega (arith, fewer, c.decreases, ap tree_size c.get-node-items.ensures), tt)

pub returns-then-has_fault : goal.returns-then-has_fault
returns-then-has_fault t c =
    let Is = HasFault c.args.fault in
    let xs = c.get-node-items.result.now in
    let p = c.in-Constructed in
    let deeper = one_deeper c.args.fault c.args.depth _ p.nodes c.saturating_add.ensures in
    let some = some_inner Is c.args.depth xs c.loop-node.node-index c.node-item.result p.tag p.form p.nodes
    c.loop-node-test.true c.node-item.is p.is (deeper.0 (c.has_fault.ensures.0 c.if-has_fault.true)) in
    (λ _. subst (SomeObject Is c.args.depth) c.get-node-items.ensures some, λ _. refl)

pub loop-node-preserved : goal.loop-node-preserved
loop-node-preserved t c =
    let Is = HasFault c.args.fault in
    let xs = c.get-node-items.result.now in
    let x = c.node-item.result in
    let own : OwnIs Is c.args.depth x → ⊥ = λ h. false≢true (sym c.if-is_faulty.false ∙ c.is_faulty.ensures.1 h) in
    let rest : ((tag : List ℕ) (form : Form) (nodes : Tree) → x ≡ node.Constructed tag form nodes
    → SomeObject Is (c.args.depth + 1) nodes → ⊥)
    → SomeObject Is c.args.depth (tree_of (take (c.loop-node.node-index + 1) xs)) → ⊥ =
    λ inner. none_more Is c.args.depth xs c.loop-node.node-index x c.loop-node-test.true c.node-item.is
    c.loop-node.invariant own inner in
    elim c.match-node.branch [
      | in-Constructed+else-has_fault w ↦
          let p = w.in-Constructed in
          let deeper = one_deeper c.args.fault c.args.depth _ p.nodes w.saturating_add.ensures in
          rest (λ tag form nodes is some. let same : nodes ≡ p.nodes =
          same_nodes tag p.tag form p.form nodes p.nodes x is p.is in
          false≢true (sym w.if-has_fault.false
          ∙ w.has_fault.ensures.1 (deeper.1 (subst (SomeObject Is (c.args.depth + 1)) same some))))
      | in_default w ↦ rest (λ tag form nodes is some. w.in_default.not-Constructed tag form nodes is)
    ]
