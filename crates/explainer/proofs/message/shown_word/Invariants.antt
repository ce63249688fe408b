use Rattle.std.proofs.Common.{◌≡◌, ◌++◌, drop, length, string_bytes}
use Rattle.std.specs.Prelude.{chars}
use Rattle.explainer.specs.Words.{shown_characters}
use Rattle.explainer.proofs.message.shown_word.Given as goal

-- the characters so far, with those that are left, are those of the word
abbrev pub invariant-loop-character : goal.invariant-loop-character
invariant-loop-character l = string_bytes l.shown ++ shown_characters (drop (length l.yielded) (chars l.word))
    ≡ shown_characters (chars l.word)
