use Rattle.std.proofs.Common.{arith}
use Rattle.tlv_core.proofs.Numbers.{power-of-few}
use Rattle.tlv_core.proofs.header.is_part.Goals as goal

pub pow-requires : goal.pow-requires
pow-requires c = power-of-few c.from.result
    (omega (arith, c.from.ensures, c.if-read-further.false, c.further.ensures.most))
