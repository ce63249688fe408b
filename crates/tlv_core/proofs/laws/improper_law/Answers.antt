use Rattle.tlv_core.proofs.Impropers.{improper_law}
use Rattle.tlv_core.proofs.laws.improper_law.Goals as goal

pub returns : goal.returns
returns c = improper_law
