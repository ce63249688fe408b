use Rattle.std.proofs.Common.{◌≤◌, List, ℕ, length, arith, rules, subst}
use Rattle.octet_core.specs.Octets.{AreOctets}
use Rattle.apdu_core.proofs.Spelled.{response-spelled}
use Rattle.apdu_core.proofs.response.Response.new.Goals as goal

pub returns-then-is_part-clause-spelled : goal.returns-then-is_part-clause-spelled
returns-then-is_part-clause-spelled c =
    response-spelled c.args.part c.args.sw1 c.args.sw2
    (subst (λ (l : List ℕ). length l ≤ 65536) c.get.ensures (c.if-is_part.ensures.fits.0 (search rules)))
    (subst AreOctets c.get.ensures c.is_part.ensures.octets)
    (omega (arith, c.ranges.sw1)) (omega (arith, c.ranges.sw2))
