use Rattle.std.proofs.Common.{◌≡◌, drop}
use Rattle.command_line.specs.Asked.{asked_in}
use Rattle.command_line.specs.Form.{texts}
use Rattle.command_line.proofs.asked.is_asked.Given as goal

-- no word so far settles it, so it is settled by those that are left
abbrev pub invariant-loop-word : goal.invariant-loop-word
invariant-loop-word l = asked_in l.option (texts (drop l.word-index l.words)) ≡ asked_in l.option (texts l.words)
