use Rattle.tlv_core.proofs.Listing.{spelled_more, each_more}
use Rattle.tlv_core.proofs.dol.Dol.encode.Goals as goal

pub loop-tag-preserved : goal.loop-tag-preserved
loop-tag-preserved c =
    let es = c.entries-tag-items.result.now in
    let i = c.loop-tag.tag-index in
    let e = c.loop-tag-item.result in
    let lt = c.loop-tag-test.true in (
      each_more es i e lt c.loop-tag-item.is c.loop-tag.invariant.0 c.append_entry.ensures.tag
          c.append_entry.ensures.length,
      spelled_more es i e c.loop-tag.out.items c.append_entry.new.out.items lt
          c.loop-tag-item.is c.loop-tag.invariant.1 c.in_ok-append_entry.ensures.octets,
    )
