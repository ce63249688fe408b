use Rattle.trace_judge.proofs.Once.{judgment-or-fault, one-judgment, one-text-fault, some-judgment}
use Rattle.trace_judge.proofs.laws.one_judgment.Goals as goal

pub returns : goal.returns
returns c = record {
  some = some-judgment;
  one = one-judgment;
  fault = one-text-fault;
  apart = judgment-or-fault;
}
