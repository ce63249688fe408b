use Rattle.std.proofs.Common.{◌≡◌, length}
use Rattle.dumps.specs.Editor.{after_more}
use Rattle.dumps.proofs.editor.after_more.Given as goal

abbrev pub invariant-loop-rest : goal.invariant-loop-rest
invariant-loop-rest l = after_more l.text ≡ after_more l.rest

abbrev pub decreases-loop-rest : goal.decreases-loop-rest
decreases-loop-rest l = length l.rest
