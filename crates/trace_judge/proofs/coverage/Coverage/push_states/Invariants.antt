use Rattle.std.proofs.Common.{◌≡◌, drop, string_bytes}
use Rattle.trace_judge.specs.Coverage.{with_states}
use Rattle.trace_judge.proofs.coverage.Coverage.push_states.Given as goal

abbrev pub invariant-loop-state : goal.invariant-loop-state
invariant-loop-state l =
    with_states l.layout (string_bytes l.text) l.self (drop l.state-index l.states)
    ≡ with_states l.layout (string_bytes l.initial.text) l.self l.states
