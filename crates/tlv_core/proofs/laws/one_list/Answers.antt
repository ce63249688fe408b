use Rattle.tlv_core.proofs.Entries.{one_dol}
use Rattle.tlv_core.proofs.laws.one_list.Goals as goal

pub returns : goal.returns
returns c = one_dol
