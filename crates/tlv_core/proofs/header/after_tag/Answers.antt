use Rattle.tlv_core.proofs.Octet.{first_length}
use Rattle.tlv_core.proofs.header.after_tag.Goals as goal

pub returns-in-None-clause-err : goal.returns-in-None-clause-err
returns-in-None-clause-err c = first_length c.args.tag c.args.octet c.requires c.in-None.ensures
