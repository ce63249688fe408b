use Rattle.std.proofs.Common.{[], ◌∷◌, arith}
use Rattle.tlv_core.proofs.Octet.{first_third, part_next}
use Rattle.tlv_core.proofs.header.after_second.Goals as goal

pub returns-in-Some-clause-ok : goal.returns-in-Some-clause-ok
returns-in-Some-clause-ok c =
    part_next (c.args.first ∷ c.args.second ∷ []) c.args.octet c.in-Some.longer c.of.result c.in-Some.ensures.0
    c.in-Some.ensures.1 c.of.ensures

pub returns-in-None-clause-err : goal.returns-in-None-clause-err
returns-in-None-clause-err c = first_third c.args.first c.args.second c.args.octet c.requires.long
    (omega (arith, c.requires.more)) c.in-None.ensures
