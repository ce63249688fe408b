use Rattle.tlv_core.proofs.Knowns.{filled_more}
use Rattle.tlv_core.proofs.filling.fill.Goals as goal

pub loop-tag-preserved : goal.loop-tag-preserved
loop-tag-preserved c = filled_more c.args.known.now c.entries-tag-items.result.now c.loop-tag.tag-index
    c.loop-tag-item.result c.loop-tag.out.items c.append_part.new.out.items c.loop-tag-test.true c.loop-tag-item.is
    c.loop-tag.invariant (c.in_ok-append_part.ensures c.args.known.now c.in_ok-placed.ensures.all)
