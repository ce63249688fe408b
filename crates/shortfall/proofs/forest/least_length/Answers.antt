use Rattle.std.proofs.Common.{arith}
use Rattle.tlv_core.proofs.Numbers.{pow_up}
use Rattle.shortfall.proofs.forest.least_length.Goals as goal

pub pow-requires : goal.pow-requires
pow-requires c = omega (arith, pow_up c.args.left 4 (omega (arith, c.requires.few)))
