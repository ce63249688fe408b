use Rattle.chain_core.proofs.Cuts.{cut_of-accepted, cut_of-chain, message_of-cut_of}
use Rattle.chain_core.proofs.laws.cut_is_a_chain.Goals as goal

pub returns : goal.returns
returns c = record { chain = cut_of-chain; message = message_of-cut_of; accepted = cut_of-accepted }
