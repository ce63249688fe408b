use Rattle.std.proofs.Common.{◌≡◌, take}
use Rattle.command_line.specs.Form.{texts}
use Rattle.explainer.specs.Words.{shown_words}
use Rattle.explainer.proofs.message.shown_words.Given as goal

-- the words so far are shown
abbrev pub invariant-loop-word : goal.invariant-loop-word
invariant-loop-word l = texts l.shown.items ≡ shown_words (texts (take l.word-index l.words))
