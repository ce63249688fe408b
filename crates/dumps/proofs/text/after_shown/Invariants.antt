use Rattle.std.proofs.Common.{◌≡◌, length}
use Rattle.dumps.specs.Characters.{after_shown}
use Rattle.dumps.proofs.text.after_shown.Given as goal

abbrev pub invariant-loop-left : goal.invariant-loop-left
invariant-loop-left l = after_shown l.octets l.text ≡ after_shown l.left l.rest

abbrev pub decreases-loop-left : goal.decreases-loop-left
decreases-loop-left l = length l.left
