use Rattle.std.proofs.Common.{◌≡◌, false}
use Rattle.session_core.specs.Wire.{is_set}
use Rattle.session_laws.specs.Ending.{HasBurst}
use Rattle.hostile_sessions.proofs.timed.go_through.Given as goal

abbrev pub invariant-loop-call : goal.invariant-loop-call
invariant-loop-call l =
    (is_set l.post.session.line.rules.is_card ≡ false) × (is_set l.post.session.line.rules.has_clock ≡ false)
    × HasBurst l.post.session.line

abbrev pub invariant-loop-number : goal.invariant-loop-number
invariant-loop-number l =
    (is_set l.post.session.line.rules.is_card ≡ false) × (is_set l.post.session.line.rules.has_clock ≡ false)
    × HasBurst l.post.session.line
