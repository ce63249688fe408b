use Rattle.chain_core.proofs.Ends.{all-accepted, all-short, all-refused}
use Rattle.chain_core.proofs.laws.read_of_all.Goals as goal

pub returns : goal.returns
returns c = record { chain = all-accepted; short = all-short; refused = all-refused }
