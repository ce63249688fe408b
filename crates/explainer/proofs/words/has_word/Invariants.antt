use Rattle.std.proofs.Common.{◌≡◌, drop}
use Rattle.command_line.specs.Form.{texts}
use Rattle.explainer.specs.Words.{has_word}
use Rattle.explainer.proofs.words.has_word.Given as goal

-- no word so far is it, so it is among those that are left
abbrev pub invariant-loop-word : goal.invariant-loop-word
invariant-loop-word l = has_word l.wanted (texts (drop l.word-index l.words)) ≡ has_word l.wanted (texts l.words)
