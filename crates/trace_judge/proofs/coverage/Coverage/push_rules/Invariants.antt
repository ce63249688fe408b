use Rattle.std.proofs.Common.{◌≡◌, drop, string_bytes}
use Rattle.trace_judge.specs.Coverage.{with_rules}
use Rattle.trace_judge.proofs.coverage.Coverage.push_rules.Given as goal

abbrev pub invariant-loop-rule : goal.invariant-loop-rule
invariant-loop-rule l =
    with_rules l.layout (string_bytes l.text) l.self (drop l.rule-index l.rules)
    ≡ with_rules l.layout (string_bytes l.initial.text) l.self l.rules
