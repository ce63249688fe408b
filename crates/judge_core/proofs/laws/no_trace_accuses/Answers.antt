use Rattle.judge_core.proofs.Traces.{no_trace_accuses}
use Rattle.judge_core.proofs.laws.no_trace_accuses.Goals as goal

pub returns : goal.returns
returns c = no_trace_accuses
