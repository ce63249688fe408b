use Rattle.t1_core.proofs.Classes.{only-one}
use Rattle.t1_core.proofs.laws.one_class.Goals as goal

pub returns : goal.returns
returns c = only-one c.one_accepted.ensures
