use Rattle.std.proofs.Common.{◌≡◌, drop}
use Rattle.program.specs.TracePlaces.{has_added}
use Rattle.program.proofs.trace_place.has_added.Given as goal

abbrev pub invariant-loop-line : goal.invariant-loop-line
invariant-loop-line l = has_added (drop l.line-index l.lines) ≡ has_added l.lines
