use Rattle.std.proofs.Common.{◌∙◌, arith, string_bytes}
use Rattle.program_octets.proofs.Placing.{one-field}
use Rattle.program_octets.proofs.places.field_ranges.Goals as goal

pub loop-preserved : goal.loop-preserved
loop-preserved c = record {
  whole = one-field (string_bytes c.loop.ranges) (string_bytes c.push_range.new.ranges) c.args.octets.now c.args.blocks
      c.loop.counter c.loop.at c.octet_at.result c.loop-test.true c.octet_at.ensures.octet c.in_ok-push_range.ensures
      ∙ c.loop.invariant.whole;
  small = omega (arith, c.loop.invariant.small, c.octet_at.ensures.few);
}
