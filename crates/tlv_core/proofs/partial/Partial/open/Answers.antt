use Rattle.std.proofs.Common.{◌∙◌, Vec, Global, refl, ap}
use Rattle.tlv_core.specs.declared.node.Node.{Node}
use Rattle.tlv_core.proofs.Closes.{open_done}
use Rattle.tlv_core.proofs.partial.Partial.open.Goals as goal

pub returns : goal.returns
returns c =
    open_done c.args.self.now c.push_reserved.new.self.items _ c.replace-before.new.dest.items c.args.self.now.value
    c.requires.idle refl c.push_reserved.ensures.items
    (ap (λ (v : Vec Node Global). v.items) c.replace-before.ensures.value)
    (ap (λ (v : Vec Node Global). v.items) c.replace-before.ensures.after ∙ c.new.ensures.items)
