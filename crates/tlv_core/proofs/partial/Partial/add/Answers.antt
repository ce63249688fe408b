use Rattle.std.proofs.Common.{◌≡◌, ◌∙◌, List, [], ◌∷◌, ◌++◌, ap, arith}
use Rattle.std.proofs.Common.{Vec, Global}
use Rattle.std.specs.Prelude.{Option, option_to_list}
use Rattle.tlv_core.specs.declared.node.Node.{Node}
use Rattle.tlv_core.specs.declared.node.Node.TheVariants as node
use Rattle.tlv_core.specs.declared.partial.OpenObject.{OpenObject}
use Rattle.tlv_core.specs.Tree.{Tree}
use Rattle.tlv_core.specs.Nodes.{tree_of}
use Rattle.tlv_core.proofs.Closes.{closes_more, closes_all}
use Rattle.tlv_core.proofs.partial.Partial.add.Goals as goal

pub loop-self-preserved : goal.loop-self-preserved
loop-self-preserved c =
    let l = c.loop-self in
    let o = c.unwrap-before.result in
    let now = c.push_reserved-in-loop-self.new.self.items in
    let opened : l.self.opened.items ≡ c.pop.new.self.items ++ o ∷ [] =
    c.pop.ensures.items ∙ ap (λ (last : Option OpenObject). c.pop.new.self.items ++ option_to_list last)
    c.unwrap-before.ensures in
    let nodes : tree_of c.replace-nodes.result.items ≡ tree_of l.self.list.items =
    ap (λ (v : Vec Node Global). tree_of v.items) c.replace-nodes.ensures.value in
    let before : c.replace-nodes.new.dest.items ≡ o.before.items =
    ap (λ (v : Vec Node Global). v.items) c.replace-nodes.ensures.after in
    let list : now ≡ o.before.items ++ node.Constructed o.header.tag o.header.form (tree_of l.self.list.items) ∷ [] =
    c.push_reserved-in-loop-self.ensures.items
    ∙ ap (λ (z : List Node). z ++ node.Constructed o.header.tag o.header.form c.of.result ∷ []) before
    ∙ ap (λ (t : Tree). o.before.items ++ node.Constructed o.header.tag o.header.form t ∷ []) (c.of.ensures ∙ nodes) in (
      l.invariant.0,
      λ b rooms closed level h. closes_more b rooms l.self.opened.items c.pop.new.self.items o l.self.list.items now
          (omega (arith, level, c.loop-self-test.true, c.len.ensures)) opened list
          (l.invariant.1 b rooms closed level h),
    )

pub returns-clause-closed : goal.returns-clause-closed
returns-clause-closed c b rooms closed level h =
    let l = c.loop-self in
    closes_all b rooms l.self.opened.items l.self.list.items
    (omega (arith, level, c.loop-self-test.false, c.len.ensures)) (l.invariant.1 b rooms closed level h)
