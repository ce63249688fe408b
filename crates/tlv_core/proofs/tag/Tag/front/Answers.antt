use Rattle.std.proofs.Common.{arith}
use Rattle.tlv_core.proofs.Shorts.{tag_made}
use Rattle.tlv_core.proofs.tag.Tag.front.Goals as goal

pub invariant_of-result : goal.invariant_of-result
invariant_of-result c =
    (tag_made c.args.first c.args.second c.args.third c.args.count c.from.result c.from_le_bytes.result
    c.to_le_bytes.result (omega (arith, c.ranges.first)) (omega (arith, c.ranges.second))
    (omega (arith, c.ranges.third)) c.requires.few c.from.ensures c.requires.tag
    (omega (arith, c.from_le_bytes.ensures)) c.to_le_bytes.ensures).whole

pub returns : goal.returns
returns c =
    (tag_made c.args.first c.args.second c.args.third c.args.count c.from.result c.from_le_bytes.result
    c.to_le_bytes.result (omega (arith, c.ranges.first)) (omega (arith, c.ranges.second))
    (omega (arith, c.ranges.third)) c.requires.few c.from.ensures c.requires.tag
    (omega (arith, c.from_le_bytes.ensures)) c.to_le_bytes.ensures).same
