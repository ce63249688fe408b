use Rattle.std.proofs.Common.{arith, rules}
use Rattle.apdu_core.proofs.Spelled.{response-spelled}
use Rattle.apdu_core.proofs.response_ref.ResponseRef.new.Goals as goal

pub returns-then-is_part-clause-spelled : goal.returns-then-is_part-clause-spelled
returns-then-is_part-clause-spelled c =
    response-spelled c.args.part.now c.args.sw1 c.args.sw2 (c.if-is_part.ensures.fits.0 (search rules))
    c.is_part.ensures.octets (omega (arith, c.ranges.sw1)) (omega (arith, c.ranges.sw2))
