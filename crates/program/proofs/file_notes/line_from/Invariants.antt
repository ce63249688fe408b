use Rattle.std.proofs.Common.{◌≡◌, length}
use Rattle.program.specs.FileNotes.{line_from}
use Rattle.program.proofs.file_notes.line_from.Given as goal

abbrev pub invariant-loop-rest : goal.invariant-loop-rest
invariant-loop-rest l = line_from l.left l.rest ≡ line_from l.number l.text

abbrev pub decreases-loop-rest : goal.decreases-loop-rest
decreases-loop-rest l = length l.rest
