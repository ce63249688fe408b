use Rattle.exchange_text.proofs.Faulty.{exchange-or-fault, never-both, never-memory}
use Rattle.exchange_text.proofs.laws.exchange_or_fault.Goals as goal

pub returns-clause-some : goal.returns-clause-some
returns-clause-some c = exchange-or-fault

pub returns-clause-not_both : goal.returns-clause-not_both
returns-clause-not_both c = never-both

pub returns-clause-no_memory : goal.returns-clause-no_memory
returns-clause-no_memory c = never-memory
