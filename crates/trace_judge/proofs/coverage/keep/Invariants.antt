use Rattle.std.proofs.Common.{◌≡◌, drop}
use Rattle.trace_judge.specs.Coverage.{kept_of}
use Rattle.trace_judge.proofs.coverage.keep.Given as goal

abbrev pub invariant-loop-rule : goal.invariant-loop-rule
invariant-loop-rule l = kept_of l.stakes (drop l.rule-index l.rules) l.kept ≡ kept_of l.stakes l.rules l.initial.kept
