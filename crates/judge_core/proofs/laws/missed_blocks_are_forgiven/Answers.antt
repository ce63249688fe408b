use Rattle.judge_core.proofs.Missing.{any-block, forgives, waits-elsewhere}
use Rattle.judge_core.proofs.laws.missed_blocks_are_forgiven.Goals as goal

pub returns-clause-forgiven : goal.returns-clause-forgiven
returns-clause-forgiven c = forgives

pub returns-clause-elsewhere : goal.returns-clause-elsewhere
returns-clause-elsewhere c = waits-elsewhere

pub returns-clause-any : goal.returns-clause-any
returns-clause-any c = any-block
