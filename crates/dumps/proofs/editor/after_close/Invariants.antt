use Rattle.std.proofs.Common.{◌≡◌, length}
use Rattle.dumps.specs.Editor.{after_close}
use Rattle.dumps.proofs.editor.after_close.Given as goal

abbrev pub invariant-loop-rest : goal.invariant-loop-rest
invariant-loop-rest l = after_close l.text ≡ after_close l.rest

abbrev pub decreases-loop-rest : goal.decreases-loop-rest
decreases-loop-rest l = length l.rest
