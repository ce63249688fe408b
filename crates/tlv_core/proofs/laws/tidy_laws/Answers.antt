use Rattle.tlv_core.proofs.Tidied.{tidy_laws}
use Rattle.tlv_core.proofs.laws.tidy_laws.Goals as goal

pub returns : goal.returns
returns c = tidy_laws
