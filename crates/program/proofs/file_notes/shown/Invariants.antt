use Rattle.std.proofs.Common.{◌≡◌, ◌++◌, drop, string_bytes}
use Rattle.program.specs.FileNotes.{line_shown}
use Rattle.program.proofs.file_notes.shown.Given as goal

-- the characters so far, with those that are left, are those of the line
abbrev pub invariant-loop-octet : goal.invariant-loop-octet
invariant-loop-octet l = string_bytes l.line ++ line_shown (drop l.octet-index l.text) ≡ line_shown l.text
