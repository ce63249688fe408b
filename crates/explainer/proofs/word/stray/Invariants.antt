use Rattle.std.proofs.Common.{◌≡◌, drop, length}
use Rattle.std.specs.Prelude.{chars}
use Rattle.explainer.specs.Words.{stray_from}
use Rattle.explainer.proofs.word.stray.Given as goal

-- the characters that are left have the first one that is no digit
abbrev pub invariant-loop-character : goal.invariant-loop-character
invariant-loop-character l =
    stray_from l.place (drop (length l.yielded) (chars l.word)) ≡ stray_from 0 (chars l.word)
