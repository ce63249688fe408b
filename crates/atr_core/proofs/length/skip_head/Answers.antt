use Rattle.std.proofs.Common.{arith}
use Rattle.atr_core.proofs.OnePass.{head-there, head-more}
use Rattle.atr_core.proofs.length.skip_head.Goals as goal

pub loop-td-init : goal.loop-td-init
loop-td-init c = (
  head-there c.args.t0 c.byte_count-place.result c.by-first.result c.args.from.now c.by-first.ensures
      c.byte_count-place.ensures.value,
  omega (arith, c.byte_count-place.ensures.few),
)

pub loop-td-preserved : goal.loop-td-preserved
loop-td-preserved c = let there = c.in_ok-octet.ensures.lookup.3 in (
  head-more c.args.t0 c.args.from.now c.loop-td.needed c.loop-td.td c.loop-td.place c.in_ok-octet.field-0.now
      c.byte_count.result c.by-announced.result c.loop-td.invariant.0 c.loop-td-test.true there.0 (there.1 0)
      c.by-announced.ensures c.byte_count.ensures.value,
  omega (arith, there.0, c.byte_count.ensures.few),
)
