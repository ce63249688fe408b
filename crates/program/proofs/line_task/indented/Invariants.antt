use Rattle.std.proofs.Common.{◌≡◌, ◌++◌, length}
use Rattle.program.specs.LineNotes.{indented, indented_from}
use Rattle.program.proofs.line_task.indented.Given as goal

-- what is added so far, with the rest after blanks, is the whole text so
abbrev pub invariant-loop-rest : goal.invariant-loop-rest
invariant-loop-rest l = l.added.items ++ indented_from l.begins l.rest ≡ indented l.text

abbrev pub decreases-loop-rest : goal.decreases-loop-rest
decreases-loop-rest l = length l.rest
