use Rattle.std.proofs.Common.{◌≡◌, length}
use Rattle.dumps.specs.Editor.{after_column}
use Rattle.dumps.proofs.editor.after_column.Given as goal

abbrev pub invariant-loop-left : goal.invariant-loop-left
invariant-loop-left l = after_column l.octets l.text ≡ after_column l.left l.rest

abbrev pub decreases-loop-left : goal.decreases-loop-left
decreases-loop-left l = length l.left
