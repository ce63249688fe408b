use Rattle.chain_core.proofs.Cuts.{first-long, first-short}
use Rattle.chain_core.proofs.laws.first_block.Goals as goal

pub returns : goal.returns
returns c = record {
  only = λ size number m. first-short number size m;
  first = λ size number m. first-long number size m;
}
