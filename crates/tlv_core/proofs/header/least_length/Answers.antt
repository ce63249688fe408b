use Rattle.std.proofs.Common.{arith}
use Rattle.tlv_core.proofs.Numbers.{pow_up}
use Rattle.tlv_core.proofs.header.least_length.Goals as goal

pub pow-requires : goal.pow-requires
pow-requires c = omega (arith, pow_up c.from-2.result 4 (omega (arith, c.from-2.ensures, c.requires.left)))
