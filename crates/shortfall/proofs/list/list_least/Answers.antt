use Rattle.std.proofs.Common.{◌<◌, ◌∙◌, arith, length, rules, sym}
use Rattle.shortfall.proofs.Listing.{begun-more, begun-tag}
use Rattle.shortfall.proofs.list.list_least.Goals as goal
use Rattle.shortfall.proofs.list.list_least.Goals.{then-is_tag, else-is_tag}

pub loop-at-preserved : goal.loop-at-preserved
loop-at-preserved c =
    let inside : c.loop-at.at < length c.args.octets.now = search (rules, arith) in
    elim c.if-is_tag.branch [
      | then-is_tag w ↦ record {
        start = rw w.start-is (omega arith);
        begun = rw w.start-is (begun-tag c.args.octets.now c.loop-at.start c.loop-at.at inside
            (sym c.is_tag.ensures ∙ w.if-is_tag.true) ∙ c.loop-at.invariant.begun);
      }
      | else-is_tag w ↦ record {
        start = rw w.start-is (omega (arith, c.loop-at.invariant.start));
        begun = rw w.start-is (begun-more c.args.octets.now c.loop-at.start c.loop-at.at
            c.loop-at.invariant.start inside (sym c.is_tag.ensures ∙ w.if-is_tag.false) ∙ c.loop-at.invariant.begun);
      }
    ]
