use Rattle.std.proofs.Common.{[]}
use Rattle.tlv_core.proofs.Octet.{part_next}
use Rattle.tlv_core.proofs.header.after_nothing.Goals as goal

pub returns-in-Some : goal.returns-in-Some
returns-in-Some c =
    part_next [] c.args.octet c.in-Some.longer c.of.result c.in-Some.ensures.0 c.in-Some.ensures.1 c.of.ensures
