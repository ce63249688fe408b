use Rattle.std.proofs.Common.{◌≡◌, length}
use Rattle.dumps.specs.OctalWords.{is_octal_words, words_from}
use Rattle.dumps.proofs.octal_words.is_octal_words.Given as goal

abbrev pub invariant-loop-rest : goal.invariant-loop-rest
invariant-loop-rest l = words_from l.digits l.whole l.rest ≡ is_octal_words l.text

abbrev pub decreases-loop-rest : goal.decreases-loop-rest
decreases-loop-rest l = length l.rest
