use Rattle.std.proofs.Common.{◌≡◌, drop}
use Rattle.program.specs.FileNotes.{returns_after}
use Rattle.program.proofs.expected.returns_after.Given as goal

abbrev pub invariant-loop-octet : goal.invariant-loop-octet
invariant-loop-octet l = returns_after l.last (drop l.octet-index l.text) ≡ returns_after l.before l.text
